use Rattle.std.proofs.Common.{◌≡◌, ◌/◌, ◌^◌, refl, ap, ◌∙◌}
use Rattle.tl_map.specs.Numbers.{Numbers}
use Rattle.tl_map.proofs.PowerLaws.{masked}
use Rattle.tl_map.proofs.PlaceLaws.{place_by_parts}
use Rattle.tl_map.proofs.geometry.Geometry.place.Goals as goal

pub returns-clause-is : goal.returns-clause-is
returns-clause-is c =
    let sets : c.self.inside.sets ≡ c.args.self.sets = ap (λ (g : Numbers). g.sets) c.self.view_is in
    let slot : c.number.result / 2 ^ c.bank_bits.result ≡ c.args.block / c.args.self.banks =
    rw (c.bank_bits.ensures.power, c.number.ensures) refl in
    let bank = c.new.ensures ∙ c.xor_of_groups.ensures.is ∙ rw c.number-2.ensures refl in
    let set = c.new-2.ensures ∙ masked _ _ _ _ c.self.invariant.sets ∙ rw (slot, sets) refl in
    let tag = c.new-3.ensures ∙ rw (c.set_bits.ensures.power, slot) refl in
    place_by_parts c.args.self c.args.block _ _ _ bank set tag
