-- Laws of the ways of a set.
use Rattle.std.proofs.Common.{◌≡◌, ◌≢◌, ℕ, ◌<◌, ◌≤◌, List, length, ap, sym, ◌∙◌, arith, inl, inr}
use Rattle.std.specs.Prelude.{Option, None, Some, slice_set}
use Rattle.std.specs.List.{refill}
use Rattle.std.proofs.lemmas.Bool.{cases_eq}
use Rattle.std.proofs.lemmas.Grind.{common_steps}
use Rattle.std.proofs.lemmas.List.{get_or-set_same, get_or-set_other, length-set}
use Rattle.tl_ways.specs.Entries.{Entry}
use Rattle.tl_ways.specs.Orders.{rising, touched}
use Rattle.tl_ways.proofs.OrderLaws.{among-rising, rising-only, length-rising, among-touched, touched-only, length-touched}
use Rattle.tl_ways.specs.Rows.{Row, IsRow, IsEmpty, entry_in, tag_in, tag_in_entry}

-- a list written whole
pub refill-whole : {X : Type 0} (xs ys : List X) → length ys ≡ length xs → refill (length xs) xs ys ≡ ys
refill-whole xs ys same = grind (arith, common_steps)

-- a row with another entry in a way
abbrev pub with_entry : Row → ℕ → Option Entry → Row
with_entry row way entry = record { entries = slice_set row.entries way entry; order = row.order }

-- its tag there
tag_in-same : (row : Row) (way : ℕ) (entry : Option Entry) → way < length row.entries → tag_in (with_entry row way entry) way ≡ tag_in_entry entry
tag_in-same row way entry inside = ap tag_in_entry (get_or-set_same row.entries way entry None inside)

-- and elsewhere
tag_in-other : (row : Row) (way other : ℕ) (entry : Option Entry) → other ≢ way → tag_in (with_entry row way entry) other ≡ tag_in row other
tag_in-other row way other entry apart = ap tag_in_entry (get_or-set_other row.entries way other entry None apart)

-- an entry of a tag that no other way has keeps the row
pub IsRow-with_entry : (row : Row) (way : ℕ) (entry : Option Entry) → IsRow row → way < length row.entries
    → ((tag other : ℕ) → tag_in_entry entry ≡ Some tag → other ≢ way → tag_in row other ≡ Some tag → ⊥)
    → IsRow (with_entry row way entry)
IsRow-with_entry row way entry kept inside alone = record {
  distinct = λ tag v w first second.
      elim (cases_eq v way) [
        | inl v_is ↦ elim (cases_eq w way) [
          | inl w_is ↦ v_is ∙ sym w_is
          | inr w_not ↦
              absurd (alone tag w (sym (tag_in-same row way entry inside) ∙ (rw v_is at first)) w_not
              (sym (tag_in-other row way w entry w_not) ∙ second))
        ]
        | inr v_not ↦ elim (cases_eq w way) [
          | inl w_is ↦
              absurd (alone tag v (sym (tag_in-same row way entry inside) ∙ (rw w_is at second)) v_not
              (sym (tag_in-other row way v entry v_not) ∙ first))
          | inr w_not ↦
              kept.distinct tag v w (sym (tag_in-other row way v entry v_not) ∙ first) (sym (tag_in-other row way w entry w_not) ∙ second)
        ]
      ];
  all = λ other below. kept.all other (rw (length-set row.entries way entry) at below);
  only = λ other among. rw (length-set row.entries way entry) (kept.only other among);
  short = kept.short;
}

-- a free way has no tag
no_tag : (row : Row) (way tag : ℕ) → entry_in row way ≡ None → tag_in row way ≡ Some tag → ⊥
no_tag row way tag free is = let none : None ≡ Some tag = rw free at is in cc

-- ways of which none holds a block, in rising order
pub IsRow-empty : (ways : ℕ) (row : Row) → ways ≤ 8 → IsEmpty ways row → row.order ≡ rising ways → IsRow row
IsRow-empty ways row few empty order = record {
  distinct = λ tag v w first second. absurd (no_tag row v tag (empty.free v) first);
  all = λ way below. rw order (among-rising ways way (rw empty.entries at below));
  only = λ way among. rw empty.entries (rising-only ways way (rw order at among));
  short = rw (order, length-rising) few;
}

-- a touch keeps the row
pub IsRow-touched : (row : Row) (way : ℕ) → IsRow row → way < length row.entries
    → IsRow (record { entries = row.entries; order = touched way row.order })
IsRow-touched row way kept inside =
    let there = kept.all way inside in
    let longer = length-touched way row.order there in
    record {
      distinct = kept.distinct;
      all = λ other below. among-touched way other row.order (kept.all other below);
      only = λ other among. kept.only other (touched-only way other row.order there among);
      short = omega (arith, longer, kept.short);
    }
