use Rattle.tl_bank_spec.specs.Views.{IsQuiet}
use Rattle.tl_bank_rest.proofs.Received.{Rests}
use Rattle.tl_bank_rest.proofs.away.send_all_away.Given as goal
use Rattle.tl_bank_rest.specs.Rest.{work_at}

abbrev pub invariant-loop-block : goal.invariant-loop-block
invariant-loop-block l = record { quiet : IsQuiet l.bank; rests : Rests l.initial.bank l.bank l.shares }

abbrev pub decreases-loop-block : goal.decreases-loop-block
decreases-loop-block l = work_at l.bank
