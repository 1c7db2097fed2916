-- Laws of the bytes of ways.
use Rattle.std.proofs.Common.{◌≡◌, ℕ, ◌+◌, ◌*◌, ◌<◌, true, false, List, [], arith, inl, inr}
use Rattle.std.specs.Prelude.{◌==◌, ◌&&◌, if◌then◌else◌, slice_set}
use Rattle.std.proofs.lemmas.Bool.{cases_eq}
use Rattle.std.proofs.lemmas.Bool.Decides.{nat_tests}
use Rattle.std.proofs.lemmas.List.{get_or-set_same, get_or-set_other}
use Rattle.std.proofs.lemmas.Nat.{mul-add-lt, same_from_place}
use Rattle.std.proofs.Math.Nat.{mul_comm}
use Rattle.tl_ways.specs.Stores.{Store, IsStore, bytes_at}

-- a store with other bytes in a way of a set
abbrev pub with_bytes : Store → ℕ → ℕ → List ℕ → Store
with_bytes store set way bytes = record {
  sets = store.sets;
  ways = store.ways;
  blocks = slice_set store.blocks (set * store.ways + way) bytes;
}

-- its bytes there
bytes_at-same : (store : Store) (set way : ℕ) (bytes : List ℕ) → IsStore store → set < store.sets → way < store.ways
    → bytes_at (with_bytes store set way bytes) set way ≡ bytes
unfolding bytes_at
bytes_at-same store set way bytes kept set_in way_in =
    let inside = mul-add-lt set store.ways way store.sets set_in way_in in
    get_or-set_same store.blocks (set * store.ways + way) bytes [] (omega (arith, inside, kept.all, mul_comm store.ways store.sets))

-- and elsewhere
bytes_at-other : (store : Store) (set way x y : ℕ) (bytes : List ℕ) → way < store.ways → y < store.ways
    → ((x ≡ set) × (y ≡ way) → ⊥) → bytes_at (with_bytes store set way bytes) x y ≡ bytes_at store x y
unfolding bytes_at
bytes_at-other store set way x y bytes way_in y_in other =
    get_or-set_other store.blocks (set * store.ways + way) (x * store.ways + y) bytes []
    (λ same. other (same_from_place x y set way store.ways y_in way_in same))

-- the bytes of each way after a write
pub bytes_at-with_bytes : (store : Store) (set way x y : ℕ) (bytes : List ℕ) → IsStore store → set < store.sets → way < store.ways
    → y < store.ways
    → bytes_at (with_bytes store set way bytes) x y ≡ (if x == set && y == way then bytes else bytes_at store x y)
bytes_at-with_bytes store set way x y bytes kept set_in way_in y_in =
    elim (cases_eq x set) [
      | inl x_is ↦ elim (cases_eq y way) [
        | inl y_is ↦
            let test : (x == set && y == way) ≡ true = grind (arith, nat_tests) in
            rw (test, x_is, y_is) (bytes_at-same store set way bytes kept set_in way_in)
        | inr y_not ↦
            let test : (x == set && y == way) ≡ false = grind (arith, nat_tests, y_not) in
            rw test (bytes_at-other store set way x y bytes way_in y_in (λ both. y_not both.1))
      ]
      | inr x_not ↦
          let test : (x == set && y == way) ≡ false = grind (arith, nat_tests, x_not) in
          rw test (bytes_at-other store set way x y bytes way_in y_in (λ both. x_not both.0))
    ]
