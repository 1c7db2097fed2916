use Rattle.std.proofs.Common.{◌≡◌, sym, ◌∙◌, ap, arith}
use Rattle.tl_map.specs.Numbers.{Numbers}
use Rattle.tl_map.proofs.PlaceLaws.{xor_of_groups-bank}
use Rattle.tl_map.proofs.geometry.Geometry.xor_of_groups.Goals as goal

pub returns-then-self-eq1-clause-is : goal.returns-then-self-eq1-clause-is
returns-then-self-eq1-clause-is c =
    let one : c.args.self.banks ≡ 1 = sym (ap (λ (g : Numbers). g.banks) c.self.view_is) ∙ c.if-self-eq1.true in
    let few = xor_of_groups-bank c.args.self 16 c.args.number (rw (← c.self.view_is) c.self.invariant) in
    omega (arith, one, few)
