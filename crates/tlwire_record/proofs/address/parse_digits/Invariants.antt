use Rattle.std.proofs.Common.{length}
use Rattle.tlwire_record.proofs.DigitLaws.{IsReadTo}
use Rattle.tlwire_record.proofs.address.parse_digits.Given as goal

abbrev pub invariant-loop-rest : goal.invariant-loop-rest
invariant-loop-rest l = IsReadTo l.fn.digits l.value l.rest

abbrev pub decreases-loop-rest : goal.decreases-loop-rest
decreases-loop-rest l = length l.rest
