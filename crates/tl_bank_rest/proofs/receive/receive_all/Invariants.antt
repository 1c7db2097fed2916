use Rattle.tl_bank_rest.proofs.Received.{Rests}
use Rattle.tl_bank_rest.proofs.receive.receive_all.Given as goal
use Rattle.tl_bank_rest.specs.Rest.{work_at}

abbrev pub invariant-loop-call : goal.invariant-loop-call
invariant-loop-call l = Rests l.initial.bank l.bank l.shares

abbrev pub decreases-loop-call : goal.decreases-loop-call
decreases-loop-call l = work_at l.bank
