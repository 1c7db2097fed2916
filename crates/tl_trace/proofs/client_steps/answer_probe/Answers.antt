use Rattle.tl_trace.proofs.Answered.{err-answers, err-starved}
use Rattle.tl_trace.proofs.Posted.{there}
use Rattle.tl_trace.proofs.client_steps.answer_probe.Goals as goal

-- the message waits where its ticket says
pub show_sent-requires : goal.show_sent-requires
show_sent-requires c = there _ _ _ _ c.in-Ok.ensures.sends

-- a refusal is the answer
pub returns-in-Err-clause-answer : goal.returns-in-Err-clause-answer
returns-in-Err-clause-answer c =
    err-answers c.refuse.result _ _ _ _ _ _ c.refuse.ensures.answer c.refuse.ensures.other c.in-Err.ensures.refused
    (c.in-Err.ensures.unchanged, c.in-Err.ensures.share_unchanged)

-- want of memory is no answer
pub returns-in-Err-clause-memory : goal.returns-in-Err-clause-memory
returns-in-Err-clause-memory c =
    err-starved c.refuse.result _ _ _ _ c.refuse.ensures.memory c.in-Err.ensures.refused (c.in-Err.ensures.unchanged, c.in-Err.ensures.share_unchanged)
