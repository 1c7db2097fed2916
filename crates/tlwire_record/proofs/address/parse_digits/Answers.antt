use Rattle.std.proofs.Common.{sym, ◌∙◌, arith}
use Rattle.tlwire_record.proofs.DigitLaws.{first_read, fits, none_read}
use Rattle.tlwire_record.proofs.address.parse_digits.Goals as goal

pub loop-rest-init : goal.loop-rest-init
loop-rest-init c = none_read c.args.digits.now c.requires

pub overflow_mul-value : goal.overflow_mul-value
overflow_mul-value c = let all = fits c.args.digits.now c.loop-rest.value c.loop-rest.rest.now 0 c.in-len1-up.len_at_least (omega arith) c.loop-rest.invariant in omega (arith, all)

pub overflow_add-value : goal.overflow_add-value
overflow_add-value c =
    let low = c.parse_digit.ensures.small in
    let all = fits c.args.digits.now c.loop-rest.value c.loop-rest.rest.now c.parse_digit.result c.in-len1-up.len_at_least low c.loop-rest.invariant in
    omega (arith, all, c.from.ensures)

pub loop-rest-preserved : goal.loop-rest-preserved
loop-rest-preserved c =
    first_read c.args.digits.now c.loop-rest.value c.loop-rest.rest.now c.from.result c.in-len1-up.len_at_least
    (sym c.is_lower_hex.ensures ∙ c.if-not-is_lower_hex.false) (c.from.ensures ∙ c.parse_digit.ensures.value)
    (omega (arith, c.from.ensures, c.parse_digit.ensures.small)) c.loop-rest.invariant
