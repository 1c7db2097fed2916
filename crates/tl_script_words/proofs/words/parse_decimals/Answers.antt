use Rattle.std.proofs.Common.{sym, ◌∙◌, arith}
use Rattle.tl_script_words.proofs.DigitLaws.{first_decimal, fits_decimal, no_decimal}
use Rattle.tl_script_words.proofs.words.parse_decimals.Goals as goal

pub loop-rest-init : goal.loop-rest-init
loop-rest-init c = no_decimal c.args.digits.now c.requires

pub overflow_mul-value : goal.overflow_mul-value
overflow_mul-value c = let all = fits_decimal c.args.digits.now c.loop-rest.value c.loop-rest.rest.now 0 c.in-len1-up.len_at_least (omega arith) c.loop-rest.invariant in omega (arith, all)

pub overflow_add-value : goal.overflow_add-value
overflow_add-value c =
    let low = c.parse_decimal.ensures.small in
    let all = fits_decimal c.args.digits.now c.loop-rest.value c.loop-rest.rest.now c.parse_decimal.result c.in-len1-up.len_at_least low c.loop-rest.invariant in
    omega (arith, all, c.from.ensures)

pub loop-rest-preserved : goal.loop-rest-preserved
loop-rest-preserved c =
    first_decimal c.args.digits.now c.loop-rest.value c.loop-rest.rest.now c.from.result c.in-len1-up.len_at_least
    (sym c.is_ascii_digit.ensures.value ∙ c.if-not-is_ascii_digit.false) (c.from.ensures ∙ c.parse_decimal.ensures.value)
    (omega (arith, c.from.ensures, c.parse_decimal.ensures.small)) c.loop-rest.invariant
