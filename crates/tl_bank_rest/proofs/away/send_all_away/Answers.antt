use Rattle.std.proofs.Common.{refl}
use Rattle.tl_bank_rest.proofs.Received.{join-received, rests-along, rests-first}
use Rattle.tl_bank_rest.proofs.away.send_all_away.Goals as goal

pub loop-block-init : goal.loop-block-init
loop-block-init c = record { quiet = c.requires.quiet; rests = rests-first c.args.bank.now c.args.shares.now c.requires.shares }

pub send_away-requires-clause-shares : goal.send_away-requires-clause-shares
send_away-requires-clause-shares c = c.loop-block.invariant.rests.shares

pub loop-block-preserved : goal.loop-block-preserved
loop-block-preserved c = record {
  quiet = c.in_ok-send_away.ensures.quiet;
  rests = rests-along _ _ _ _ _ c.loop-block.invariant.rests c.in_ok-send_away.ensures.received c.in_ok-send_away.ensures.moved
      c.in_ok-send_away.ensures.shares;
}

pub loop-block-smaller : goal.loop-block-smaller
loop-block-smaller c = c.in_ok-send_away.ensures.moved

pub returns-in_err-send_away-clause-received : goal.returns-in_err-send_away-clause-received
returns-in_err-send_away-clause-received c =
    join-received _ _ _ (c.loop-block.invariant.rests.events, c.loop-block.invariant.rests.received) c.in_err-send_away.ensures.received

pub returns-clause-quiet : goal.returns-clause-quiet
returns-clause-quiet c = c.loop-block.invariant.quiet

pub returns-clause-none : goal.returns-clause-none
returns-clause-none c = c.in_default.ensures.none refl

pub returns-clause-received : goal.returns-clause-received
returns-clause-received c = (c.loop-block.invariant.rests.events, c.loop-block.invariant.rests.received)

pub returns-clause-shares : goal.returns-clause-shares
returns-clause-shares c = c.loop-block.invariant.rests.shares
