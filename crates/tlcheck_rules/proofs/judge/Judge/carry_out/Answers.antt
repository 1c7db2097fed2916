use Rattle.std.proofs.Common.{ap, arith}
use Rattle.tlcheck_rules.specs.Judged.{JudgeState, own_block}
use Rattle.tlcheck_rules.proofs.Judging.{sent_is_there, taken_is_there}
use Rattle.tlcheck_rules.proofs.judge.Judge.carry_out.Goals as goal

-- the client is there
pub leave-requires : goal.leave-requires
leave-requires c =
    taken_is_there c.args.self.now.plain.shape (own_block c.args.self.now c.args.event.now) c.args.event.now c.taken_channel.result _ _
    c.client_of-client.ensures (omega (arith, c.self.invariant, ap (λ (j : JudgeState). j.plain.shape.clients) c.self.view_is)) c.requires.1 c.taken_channel.ensures

pub join-requires : goal.join-requires
join-requires c =
    sent_is_there c.args.self.now.plain.shape (own_block c.args.self.now c.args.event.now) c.args.event.now c.sent-sent.result _ _
    c.client_of-client.ensures
    (omega (arith, c.leave.ensures.clients, c.self.invariant, ap (λ (j : JudgeState). j.plain.shape.clients) c.self.view_is)) c.requires.1 c.sent-sent.ensures
