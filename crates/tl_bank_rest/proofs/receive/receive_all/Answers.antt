use Rattle.std.proofs.Common.{refl}
use Rattle.std.proofs.lemmas.Result.{err_from_is_err_and}
use Rattle.tl_bank_rest.proofs.Received.{refused-at, rests-first, rests-more, rests-still}
use Rattle.tl_bank_rest.proofs.receive.receive_all.Goals as goal

pub loop-call-init : goal.loop-call-init
loop-call-init c = rests-first c.args.bank.now c.args.shares.now c.requires

pub receive-requires-clause-shares : goal.receive-requires-clause-shares
receive-requires-clause-shares c = c.loop-call.invariant.shares

pub loop-call-preserved : goal.loop-call-preserved
loop-call-preserved c =
    rests-more _ _ _ _ _ c.loop-call.invariant c.in_ok-receive.ensures.receives c.in_ok-receive.ensures.shares

pub loop-call-smaller : goal.loop-call-smaller
loop-call-smaller c = c.in_ok-receive.ensures.receives.less

pub returns-in_err-receive-clause-refused : goal.returns-in_err-receive-clause-refused
returns-in_err-receive-clause-refused c =
    let p = err_from_is_err_and c.from_residual.result c.from_residual.ensures.1 in
    rw (p.1, p.2) (refused-at _ _ _ c.in_err-receive.ensures.unchanged c.in_err-receive.ensures.refused)

pub returns-in_err-receive-clause-received : goal.returns-in_err-receive-clause-received
returns-in_err-receive-clause-received c =
    let r = rests-still _ _ _ _ _ c.loop-call.invariant c.in_err-receive.ensures.unchanged c.in_err-receive.ensures.shares in
    (r.events, r.received)

pub returns-in_err-receive-clause-moved : goal.returns-in_err-receive-clause-moved
returns-in_err-receive-clause-moved c =
    (rests-still _ _ _ _ _ c.loop-call.invariant c.in_err-receive.ensures.unchanged c.in_err-receive.ensures.shares).moved

pub returns-clause-quiet : goal.returns-clause-quiet
returns-clause-quiet c = c.in_default.ensures.quiet.0 refl

pub returns-clause-received : goal.returns-clause-received
returns-clause-received c = (c.loop-call.invariant.events, c.loop-call.invariant.received)

pub returns-clause-moved : goal.returns-clause-moved
returns-clause-moved c = c.loop-call.invariant.moved

pub returns-clause-shares : goal.returns-clause-shares
returns-clause-shares c = c.loop-call.invariant.shares
