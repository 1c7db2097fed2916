-- What a step leaves of a bank as it was: the parts of each block but that of its last event, and the ways of each set but that block's.
use Rattle.std.proofs.Common.{◌≡◌, ◌≢◌, ℕ, zero, suc, ◌==◌, ◌&&◌, Bool, true, false, List, [], ◌++◌, Option, Some, None, if◌then◌else◌, cond, refl, sym, ap, ◌∙◌, inl, inr, eq-eqb}
use Rattle.std.specs.Prelude.{codes, nat_lt}
use Rattle.std.proofs.lemmas.Bool.{cases_eq, ne_eqb}
use Rattle.tl_types.specs.Lowest.{lowest}
use Rattle.tl_types.specs.declared.permission.Perm.TheVariants.{None as p_None}
use Rattle.tl_types.proofs.Lowest.{lowest-same}
use Rattle.tl_map.specs.Numbers.{Numbers}
use Rattle.tl_map.specs.Places.{bank_of, set_of}
use Rattle.tl_protocol.specs.Protocol.{Block, after, block_of}
use Rattle.tl_protocol.specs.Runs.{end_of}
use Rattle.tl_protocol.specs.declared.event.Event.{Event}
use Rattle.tl_text.specs.Closing.{perm_letter}
use Rattle.tl_bank_spec.specs.Own.{way_at}
use Rattle.tl_bank_spec.specs.View.{View, end_at, shape_of}
use Rattle.tl_bank_spec.specs.Views.{no_part, not_own, passing}
use Rattle.tl_bank_spec.specs.Ways.{is_in_way, lies_in, slot_at}
use Rattle.tl_bank_spec.proofs.Logged.{block-next}
use Rattle.tl_bank.specs.Contents.{slot_shown}
use Rattle.tlchart_page.specs.Parts.{part_text, ways_below}
use Rattle.tlchart_page.specs.Reach.{IsLastSpot, touches}
use Rattle.tlchart_page.specs.Words.{bytes_text, copy_text, line_text, outward_text, slot_text, wait_text}
use Rattle.tlchart_page.specs.declared.parts.Part.{Part}
use Rattle.tlchart_page.specs.declared.parts.Part.TheVariants as part
use Rattle.tlchart_page.specs.declared.reach.Spot.{Spot}
use Rattle.tlchart_page.proofs.Lasts.{push-same}
use Rattle.tlchart_page.proofs.Moves.{Goes, Moves, Stays}

-- Each block but one is as it was, and lies where it lay.
pub record Untouched (old new : View) (block : ℕ) : Type 0 where
  pub geometry : new.geometry ≡ old.geometry
  pub number : new.number ≡ old.number
  pub ends : (b : ℕ) → b ≢ block → end_at new b ≡ end_at old b
  pub ways : (b : ℕ) → b ≢ block → way_at new b ≡ way_at old b

-- ## After a step

-- where the log stayed
stays-untouched : (old new : View) (block : ℕ) → Stays old new → Untouched old new block
stays-untouched old new block s = record {
  geometry = s.geometry;
  number = s.number;
  ends = λ b ne.
      ap (λ (g : Numbers). end_of (shape_of g) new.image new.log b) s.geometry
      ∙ ap (λ (image : List ℕ). end_of (shape_of old.geometry) image new.log b) s.image
      ∙ ap (λ (log : List Event). end_of (shape_of old.geometry) old.image log b) s.log;
  ways = λ b ne. s.ways b;
}

-- where it has one event more, which is the last one
goes-untouched : (old new : View) (spot : Spot) (e : Event) → Goes old new e → IsLastSpot new spot → Untouched old new spot.block
goes-untouched old new spot e go at =
    let same : at.event ≡ e = push-same at.before old.log at.event e (sym at.log ∙ go.extends.log) in
    let is : spot.block ≡ block_of (shape_of old.geometry) e =
    at.of.block ∙ ap (λ (g : Numbers). block_of (shape_of g) at.event) go.extends.geometry
    ∙ ap (λ (x : Event). block_of (shape_of old.geometry) x) same in
    record {
      geometry = go.extends.geometry;
      number = go.extends.number;
      ends = λ b ne.
          block-next old new e b go.extends
          ∙ ap (λ (t : Bool). cond t (after (shape_of old.geometry) (end_at old b) e) (end_at old b))
          (ne_eqb b (block_of (shape_of old.geometry) e) (λ q. ne (q ∙ sym is)));
      ways = λ b ne. go.ways b (λ q. ne (q ∙ sym is));
    }

-- in either case
pub moves-untouched : (old new : View) (spot : Spot) → Moves old new → IsLastSpot new spot → Untouched old new spot.block
moves-untouched old new spot (inl s) at = stays-untouched old new spot.block s
moves-untouched old new spot (inr go) at = goes-untouched old new spot go.0 go.1 at

-- ## What is shown of a block

-- a bank of which only the geometry and the number count
abbrev bare : Numbers → ℕ → View
bare g number =
    record { geometry = g; number = number; image = []; log = []; forgotten = 0; room = 0; registers = []; ways = [] }

-- two numbers whose test fails are not the same
not-same : (a b : ℕ) → (a == b) ≡ false → a ≢ b
not-same a b fails q = let holds : (a == b) ≡ true = eq-eqb a b q in let bad : true ≡ false = sym holds ∙ fails in cc

module _ (old new : View) (block : ℕ) (u : Untouched old new block) where
  -- what follows of the geometry, the number and what is held of another block
  along : (F : Numbers → ℕ → Block → List ℕ) (b : ℕ) → b ≢ block
      → F new.geometry new.number (end_at new b) ≡ F old.geometry old.number (end_at old b)
  along F b ne =
      ap (λ (g : Numbers). F g new.number (end_at new b)) u.geometry
      ∙ ap (λ (n : ℕ). F old.geometry n (end_at new b)) u.number
      ∙ ap (λ (s : Block). F old.geometry old.number s) (u.ends b ne)

  client-same : (client b : ℕ) → b ≢ block → part_text new (part.Client client b) ≡ part_text old (part.Client client b)
  client-same client b ne =
      along
      (λ g n s.
      copy_text (if no_part (bare g n) client b then None else Some (s.client client).held) ++ codes " "
      ++ wait_text (if no_part (bare g n) client b then None else Some (s.client client).wait) ++ codes " "
      ++ perm_letter (if no_part (bare g n) client b then p_None else (s.client client).recorded))
      b ne

  home-same : (b : ℕ) → b ≢ block → part_text new (part.Home b) ≡ part_text old (part.Home b)
  home-same b ne =
      along
      (λ g n s.
      line_text (if not_own (bare g n) b then None else s.home) ++ codes " "
      ++ outward_text (if not_own (bare g n) b then None else passing s.outward))
      b ne

  memory-same : (b : ℕ) → b ≢ block → part_text new (part.Memory b) ≡ part_text old (part.Memory b)
  memory-same b ne = along (λ g n s. bytes_text (if not_own (bare g n) b then None else Some s.memory)) b ne

-- ## What is shown of a set

-- no test holds beside one that fails
and-false : (b : Bool) → (b && false) ≡ false
and-false true = refl
and-false false = refl

-- a block of another set does not lie there
lies-elsewhere : (v : View) (s way b : ℕ) → set_of v.geometry b ≢ s → lies_in v s way b ≡ false
lies-elsewhere v s way b ne =
    ap (λ (t : Bool). (bank_of v.geometry b == v.number) && (t && is_in_way way (way_at v b))) (ne_eqb (set_of v.geometry b) s ne)
    ∙ and-false (bank_of v.geometry b == v.number)

module _ (old new : View) (block : ℕ) (u : Untouched old new block) (s : ℕ) (ne : set_of old.geometry block ≢ s) where
  -- a block lies there just where it did
  lies-same : (way b : ℕ) → lies_in new s way b ≡ lies_in old s way b
  lies-same way b =
      elim (cases_eq b block) [
        | inl q ↦
            let before : set_of old.geometry b ≢ s = λ e. ne (ap (set_of old.geometry) (sym q) ∙ e) in
            let after : set_of new.geometry b ≢ s = λ e. before (ap (λ (g : Numbers). set_of g b) (sym u.geometry) ∙ e) in
            lies-elsewhere new s way b after ∙ sym (lies-elsewhere old s way b before)
        | inr other ↦
            ap (λ (g : Numbers). (bank_of g b == new.number) && ((set_of g b == s) && is_in_way way (way_at new b))) u.geometry
            ∙ ap (λ (n : ℕ). (bank_of old.geometry b == n) && ((set_of old.geometry b == s) && is_in_way way (way_at new b))) u.number
            ∙ ap (λ (o : Option ℕ). (bank_of old.geometry b == old.number) && ((set_of old.geometry b == s) && is_in_way way o)) (u.ways b other)
      ]

  slot-same : (way : ℕ) → slot_shown new s way ≡ slot_shown old s way
  slot-same way =
      let found : slot_at new s way ≡ slot_at old s way =
      lowest-same (lies_in new s way) (lies_in old s way) new.geometry.memory_blocks (λ b l. lies-same way b)
      ∙ ap (λ (g : Numbers). lowest (lies_in old s way) g.memory_blocks) u.geometry in
      ap (λ (o : Option ℕ). if nat_lt s new.geometry.sets && nat_lt way new.geometry.ways then o else None) found
      ∙ ap (λ (g : Numbers). if nat_lt s g.sets && nat_lt way g.ways then slot_at old s way else None) u.geometry

  below-same : (n : ℕ) → ways_below new s n ≡ ways_below old s n
  below-same zero = refl
  below-same (suc n) =
      ap (λ (xs : List ℕ). xs ++ slot_text (slot_shown new s n)) (below-same n)
      ∙ ap (λ (o : Option ℕ). ways_below old s n ++ slot_text o) (slot-same n)

  set-same : part_text new (part.Set s) ≡ part_text old (part.Set s)
  set-same = below-same new.geometry.ways ∙ ap (λ (g : Numbers). ways_below old s g.ways) u.geometry

-- ## What is shown of a bank

-- a part that what happens to the block does not change
pub part-same : (old new : View) (spot : Spot) → Untouched old new spot.block → spot.set ≡ set_of old.geometry spot.block → (p : Part)
    → touches spot p ≡ false → part_text new p ≡ part_text old p
part-same old new spot u at (part.Client client b) h = client-same old new spot.block u client b (not-same b spot.block h)
part-same old new spot u at (part.Home b) h = home-same old new spot.block u b (not-same b spot.block h)
part-same old new spot u at (part.Memory b) h = memory-same old new spot.block u b (not-same b spot.block h)
part-same old new spot u at (part.Channel client channel) h = cc
part-same old new spot u at (part.Set s) h =
    set-same old new spot.block u s (λ e. not-same s spot.set h (sym (at ∙ e)))
part-same old new spot u at part.Registers h = cc
