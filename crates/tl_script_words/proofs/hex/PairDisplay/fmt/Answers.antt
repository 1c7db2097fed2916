use Rattle.std.proofs.Common.{◌≡◌, Some, false, rules, ap}
use Rattle.std.proofs.lemmas.Fmt.{hex_byte}
use Rattle.std.specs.Fmt.{styled_digits_output}
use Rattle.tl_script_words.specs.Hex.{pair}
use Rattle.tl_script_words.proofs.hex.PairDisplay.fmt.Goals as goal

pub returns-clause-writes : goal.returns-clause-writes
returns-clause-writes g c = λ p ok.
    let byte = c.args.self.now.0 in
    let shown : styled_digits_output c.in_radix.result c.laid_out.result ≡ Some (pair byte) =
    rw (c.laid_out.ensures, c.in_radix.ensures) (ap Some (hex_byte false byte (search rules))) in
    rw shown at c.write.ensures.writes p ok
