use Rattle.std.proofs.Common.{◌∙◌, ap, arith}
use Rattle.std.proofs.lemmas.Grind.{common_steps}
use Rattle.std.proofs.lemmas.List.Elements.{AllWithin-more_set}
use Rattle.tl_client_mail.specs.Ways.{HasRoom, sent_on, sent_by}
use Rattle.tl_client_mail.proofs.WayLaws.{sent-same}
use Rattle.tl_client_mail.proofs.mail.Mail.make_room.Goals as goal

pub returns-in_err-make_room-clause-sent : goal.returns-in_err-make_room-clause-sent
returns-in_err-make_room-clause-sent c =
    sent-same c.loop-to.self-inside.sending.items c.loop-to.to c.index_mut.result.now c.make_room.new.self _ (ap sent_on c.make_room.ensures.same) c.index_mut.ensures.value
    ∙ c.loop-to.invariant.0 ∙ ap sent_by c.self.view_is

pub loop-to-preserved : goal.loop-to-preserved
loop-to-preserved c = (
  sent-same c.loop-to.self-inside.sending.items c.loop-to.to c.index_mut.result.now c.make_room.new.self _ (ap sent_on c.make_room.ensures.same) c.index_mut.ensures.value ∙ c.loop-to.invariant.0,
  c.loop-to.invariant.1,
  AllWithin-more_set c.loop-to.self-inside.sending.items c.loop-to.to c.make_room.new.self (grind (arith, common_steps)) HasRoom c.loop-to.invariant.2 c.in_ok-make_room.ensures.room,
  c.loop-to.invariant.3,
  c.loop-to.invariant.4,
  c.loop-to.invariant.5,
)
