use Rattle.std.proofs.Common.{◌∙◌, ap, sym}
use Rattle.tl_map.specs.Refusals.{numbers_of}
use Rattle.tl_script.specs.Numbers.{unsigned_of}
use Rattle.tl_runner_report.proofs.banks.is_bank_of.Goals as goal

pub returns : goal.returns
returns c =
    let bank = c.numbers.ensures ∙ ap numbers_of c.geometry.ensures in
    let own_numbers = c.numbers-2.ensures in
    let image = c.image.ensures in
    let own = c.as_slice.ensures.value in (
      λ t. (ap unsigned_of (sym bank ∙ (c.same_numbers.ensures.0 c.if-not-same_numbers.false ∙ own_numbers)), sym c.number.ensures ∙ (sym c.number-2.ensures ∙ c.if-number.false), sym image ∙ (c.same_bytes.ensures.0 t ∙ own), c.is_whole.ensures.0 c.if-not-is_whole.false),
      λ of. c.same_bytes.ensures.1 (image ∙ (of.2 ∙ sym own)),
    )
