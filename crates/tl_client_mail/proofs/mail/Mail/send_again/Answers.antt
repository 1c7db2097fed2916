use Rattle.std.proofs.Common.{◌∙◌}
use Rattle.tl_client_mail.proofs.WayLaws.{sent-same}
use Rattle.tl_client_mail.proofs.mail.Mail.send_again.Goals as goal

pub loop-to-preserved : goal.loop-to-preserved
loop-to-preserved g c = (
  sent-same c.loop-to.self-inside.sending.items c.loop-to.to c.index_mut.result.now c.send_again.new.self _ c.send_again.ensures.sent c.index_mut.ensures.value ∙ c.loop-to.invariant.0,
  c.loop-to.invariant.1,
  c.loop-to.invariant.2,
  c.loop-to.invariant.3,
  c.loop-to.invariant.4,
)
