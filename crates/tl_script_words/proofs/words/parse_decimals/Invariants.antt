use Rattle.std.proofs.Common.{length}
use Rattle.tl_script_words.proofs.DigitLaws.{IsDecimalTo}
use Rattle.tl_script_words.proofs.words.parse_decimals.Given as goal

abbrev pub invariant-loop-rest : goal.invariant-loop-rest
invariant-loop-rest l = IsDecimalTo l.fn.digits l.value l.rest

abbrev pub decreases-loop-rest : goal.decreases-loop-rest
decreases-loop-rest l = length l.rest
