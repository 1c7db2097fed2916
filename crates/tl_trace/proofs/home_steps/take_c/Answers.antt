use Rattle.tl_trace.proofs.Posted.{there-if}
use Rattle.tl_trace.proofs.home_steps.take_c.Goals as goal

-- the ReleaseAck waits where its ticket says
pub show_sent-requires : goal.show_sent-requires
show_sent-requires c = there-if _ _ _ c.in-Ok-Some.field-0 _ c.in-Ok-Some.field-0-is c.in-Ok-Some.ensures.sends
