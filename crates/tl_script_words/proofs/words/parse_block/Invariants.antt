use Rattle.std.proofs.Common.{◌≡◌, length}
use Rattle.tl_script_words.specs.Words.{bytes_of}
use Rattle.tl_script_words.proofs.WordLemmas.{with_front}
use Rattle.tl_script_words.proofs.words.parse_block.Given as goal

abbrev pub invariant-loop-rest : goal.invariant-loop-rest
invariant-loop-rest l = with_front l.bytes.items (bytes_of l.rest) ≡ bytes_of l.fn.text

abbrev pub decreases-loop-rest : goal.decreases-loop-rest
decreases-loop-rest l = length l.rest
