use Rattle.std.proofs.Common.{◌≡◌, ◌+◌, ◌*◌, ◌++◌, take, length}
use Rattle.tl_script_words.specs.Hex.{hex_text}
use Rattle.tl_script_words.proofs.hex.write_hex.Given as goal

abbrev pub invariant-loop-place : goal.invariant-loop-place
invariant-loop-place l = (length l.digits ≡ length l.fn.digits) × (take (l.at + 2 * l.place) l.digits ≡ take l.at l.fn.digits ++ hex_text (take l.place l.bytes))
