use Rattle.std.proofs.Common.{◌≡◌, ℕ, ◌%◌, ◌*◌, ◌^◌, sym, ◌∙◌, ap, arith}
use Rattle.tl_map.specs.Numbers.{Numbers}
use Rattle.tl_map.specs.Places.{xor_of_groups}
use Rattle.tl_map.proofs.FoldLaws.{fold, folded}
use Rattle.tl_map.proofs.PowerLaws.{masked}
use Rattle.tl_map.proofs.PlaceLaws.{xor_of_groups-bank}
use Rattle.tl_map.proofs.geometry.Geometry.folded.Goals as goal

pub returns-clause-is : goal.returns-clause-is
returns-clause-is c =
    let k : ℕ = c.bank_bits-bits.result in
    let banks : c.self.inside.banks ≡ c.args.self.banks = ap (λ (g : Numbers). g.banks) c.self.view_is in
    let power : 2 ^ k ≡ c.args.self.banks = c.bank_bits-bits.ensures.power in
    let one : 1 * k ≡ k = omega arith in
    let all : fold k (fold (2 * k) (fold (4 * k) (fold (8 * k) c.args.number))) % 2 ^ k ≡ xor_of_groups (2 ^ k) 16 c.args.number =
    sym (rw one at (folded k c.args.number)) in
    masked _ _ _ _ c.self.invariant.banks ∙ rw banks (rw (← power) all)

pub returns-clause-group : goal.returns-clause-group
returns-clause-group c =
    rw (returns-clause-is c) (xor_of_groups-bank c.args.self 16 c.args.number (rw (← c.self.view_is) c.self.invariant))
