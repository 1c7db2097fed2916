use Rattle.std.proofs.Common.{◌≡◌, List, length, slice_set, arith}
use Rattle.std.proofs.lemmas.List.{length-set}
use Rattle.tl_ways.proofs.RowLaws.{refill-whole}
use Rattle.tl_bank_home.specs.declared.crossings.Crossing.{Crossing}
use Rattle.tl_bank_home.specs.Crossings.{IsPlace}
use Rattle.tl_bank_home.proofs.CrossingLaws.{AreApart-changed, outward_of-changed}
use Rattle.tl_bank_home.proofs.crossings.Crossings.change.Goals as goal

-- the place stands in the list itself
place : (c : goal.After-self-1) → IsPlace c.args.block c.self.inside.list.items c.unwrap-place.result
place c = rw (c.unwrap-place.ensures, ← c.self.view_is) at c.place_of.ensures

-- the list after the change
changed : goal.After-self-1 → List Crossing
changed c = slice_set c.self.inside.list.items c.unwrap-place.result (record { block = c.args.block; outward = c.args.outward })

pub invariant_of-self : goal.invariant_of-self
unfolding changed
invariant_of-self c =
    let size : length (changed c) ≡ length c.self.inside.list.items = length-set c.self.inside.list.items c.unwrap-place.result _ in
    rw (c.deref_mut.ensures.value, refill-whole c.self.inside.list.items (changed c) size) (record {
      apart = AreApart-changed c.args.block c.args.outward c.self.inside.list.items c.unwrap-place.result (place c) c.self.invariant.apart c.requires.passes;
      few = omega (arith, size, c.self.invariant.few);
    })

pub returns-clause-outward : goal.returns-clause-outward
unfolding changed
returns-clause-outward c = λ b.
    let size : length (changed c) ≡ length c.self.inside.list.items = length-set c.self.inside.list.items c.unwrap-place.result _ in
    rw (c.deref_mut.ensures.value, refill-whole c.self.inside.list.items (changed c) size, ← c.self.view_is)
    (outward_of-changed c.args.block c.args.outward c.self.inside.list.items c.unwrap-place.result (place c) b)
