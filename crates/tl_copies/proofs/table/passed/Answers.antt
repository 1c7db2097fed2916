use Rattle.std.proofs.Common.{◌≡◌, ℕ, ◌+◌, ◌-◌, ◌<◌, ◌≤◌, ◌∙◌, Bool, false, List, length, slice_index_or, slice_range, drop, ap, arith, inl, inr, length-drop}
use Rattle.std.proofs.lemmas.Bool.{cases_lt}
use Rattle.std.proofs.lemmas.List.{get_or-take, get_or-drop, length-take}
use Rattle.tl_copies.specs.declared.table.Key.{Key}
use Rattle.tl_copies.specs.Slots.{IsNotBefore}
use Rattle.tl_copies.proofs.table.passed.Goals as goal

-- a key of a range is one of all
key-range : (keys : List Key) (place count k : ℕ) (d : Key) → place ≤ k → k < place + count
    → slice_index_or (slice_range keys place (place + count)) (k - place) d ≡ slice_index_or keys k d
key-range keys place count k d from below =
    get_or-take (place + count - place) (drop place keys) (k - place) d (omega arith)
    ∙ get_or-drop place keys (k - place) d
    ∙ ap (λ i. slice_index_or keys i d) (omega arith)

-- as long as the range
length-range : (keys : List Key) (place count : ℕ) → place + count ≤ length keys → length (slice_range keys place (place + count)) ≡ count
length-range keys place count fits =
    omega (arith, length-take (place + count - place) (drop place keys), length-drop place keys)

-- a range of which no key is the block's
passed-more : (block : ℕ) (keys : List Key) (place count : ℕ) (has : Bool) → place + count ≤ length keys → IsNotBefore block keys place
    → has ≡ false
    → (has ≡ false → IsNotBefore block (slice_range keys place (place + count)) (length (slice_range keys place (place + count))))
    → IsNotBefore block keys (place + count)
passed-more block keys place count has fits before is none k d below =
    elim (cases_lt k place) [
      | inl earlier ↦ before k d earlier
      | inr later ↦ λ q.
          none is (k - place) d (omega (arith, length-range keys place count fits))
          (ap (λ (key : Key). key.block) (key-range keys place count k d later below) ∙ q)
    ]

pub loop-place-preserved : goal.loop-place-preserved
loop-place-preserved c =
    let fits : c.loop-place.place + 8 ≤ length c.args.keys.now = omega (arith, c.loop-place-test.true) in
    (fits, passed-more c.args.block c.args.keys.now c.loop-place.place 8 c.has.result fits c.loop-place.invariant.1 c.if-not-has.true c.has.ensures)
