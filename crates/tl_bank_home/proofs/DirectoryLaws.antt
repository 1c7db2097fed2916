-- What the directory holds of each block, before and after one of its ways changes.
use Rattle.std.proofs.Common.{◌≡◌, ◌≢◌, ℕ, ◌<◌, ◌==◌, ◌&&◌, Bool, true, false, List, Option, None, Some, if◌then◌else◌, refl, sym, ◌∙◌, ap, arith, eq-eqb, eqb-true, inl, inr, subst}
use Rattle.std.specs.Prelude.{IfSome, IfNone, IsSome, is_none, not, ◌≤◌}
use Rattle.std.specs.Option.{option_map}
use Rattle.std.proofs.lemmas.Bool.{cases_eq, cases_order, and_parts, ne_eqb}
use Rattle.tl_types.proofs.Lowest.{none-lowest, lowest-same, lowest-some, lowest-one}
use Rattle.tl_types.specs.Lowest.{lowest}
use Rattle.tl_types.specs.declared.permission.Perm.{Perm}
use Rattle.tl_types.specs.declared.permission.Perm.TheVariants.{None as NoAccess}
use Rattle.tl_map.specs.Numbers.{Numbers}
use Rattle.tl_map.specs.Places.{bank_of, set_of, tag_of, place_of}
use Rattle.tl_map.specs.declared.place.Place.{Place}
use Rattle.tl_map.proofs.PlaceLaws.{place_of-alone}
use Rattle.tl_ways.specs.Entries.{Entry, IsOfClients, entry_perm}
use Rattle.tl_ways.specs.Orders.{chosen, touched}
use Rattle.tl_ways.specs.Rows.{tag_in_entry}
use Rattle.tl_ways.specs.Tables.{WayTable, IsSameSize, entry_at, order_at, set_count, tag_at, chosen_at}
use Rattle.tl_ways.specs.Stores.{Store, bytes_at}
use Rattle.tl_bank_home.specs.Directories.{Directory, has_tag, way_by_tag, copy_at, perm_in_way, way_of, line_of, recorded_of, free_in, order_of, order_after, IsDirectory, IsHeld, IsPlaced}

-- a negation the other way round
pub not_flip : (b : Bool) (negated : Bool) → not b ≡ negated → b ≡ not negated
not_flip true negated is = ap (λ x. not x) is
not_flip false negated is = ap (λ x. not x) is

-- where the test says that a way has a tag, it has it
has_tag-is : (tag : Option ℕ) (other : ℕ) → has_tag tag other ≡ true → tag ≡ Some other
has_tag-is None other is = absurd (cc)
has_tag-is (Some tag) other is = ap Some (eqb-true tag other is)

-- and where it has it, the test says so
has_tag-same : (tag : Option ℕ) (other : ℕ) → tag ≡ Some other → has_tag tag other ≡ true
has_tag-same None other is = absurd (cc)
has_tag-same (Some tag) other is = eq-eqb tag other (cc)

-- and where it has not, the test fails
has_tag-not : (tag : Option ℕ) (other : ℕ) → tag ≢ Some other → has_tag tag other ≡ false
has_tag-not None other never = refl
has_tag-not (Some tag) other never = ne_eqb tag other (λ same. never (ap Some same))

-- no two blocks of one bank have one set and one tag
pub same_block : (g : Numbers) (a b : ℕ) → bank_of g a ≡ bank_of g b → set_of g a ≡ set_of g b → tag_of g a ≡ tag_of g b → a ≡ b
same_block g a b banks sets tags =
    let places : place_of g a ≡ place_of g b = rw (banks, sets, tags) refl in
    place_of-alone g a b places

-- ## The way of a block

-- where a block lies, its tag stands
pub record IsThere (d : Directory) (block way : ℕ) : Type 0 where
  pub own : bank_of d.geometry block ≡ d.bank
  pub inside : way < d.table.ways
  pub tag : tag_at d.table (set_of d.geometry block) way ≡ Some (tag_of d.geometry block)

-- a way that is given only for a block of the bank: the block is of the bank, and that is its way
in_bank : (own : Bool) (way : Option ℕ) (found : ℕ) → (if own then way else None) ≡ Some found → (own ≡ true) × (way ≡ Some found)
in_bank true way found is = (refl, is)
in_bank false way found is = absurd (cc)

-- in the way in which a block lies its tag stands
pub IsThere-of : (d : Directory) (block way : ℕ) → way_of d block ≡ Some way → IsThere d block way
unfolding way_of
IsThere-of d block way is =
    let test = λ (w : ℕ). has_tag (tag_at d.table (set_of d.geometry block) w) (tag_of d.geometry block) in
    let parts : (((bank_of d.geometry block == d.bank) ≡ true) × (lowest test d.table.ways ≡ Some way)) =
    in_bank (bank_of d.geometry block == d.bank) (lowest test d.table.ways) way is in
    let found = lowest-some test d.table.ways way parts.1 in
    record {
      own = eqb-true (bank_of d.geometry block) d.bank parts.0;
      inside = found.0;
      tag = has_tag-is (tag_at d.table (set_of d.geometry block) way) (tag_of d.geometry block) found.1;
    }

-- a block lies in the only way of its set with its tag
pub way_of-found : (d : Directory) (block way : ℕ) → IsThere d block way
    → ((other : ℕ) → tag_at d.table (set_of d.geometry block) other ≡ Some (tag_of d.geometry block) → other ≡ way) → way_of d block ≡ Some way
unfolding way_of
way_of-found d block way there alone =
    let test = λ (w : ℕ). has_tag (tag_at d.table (set_of d.geometry block) w) (tag_of d.geometry block) in
    rw (eq-eqb (bank_of d.geometry block) d.bank there.own)
    (lowest-one test d.table.ways way there.inside (has_tag-same (tag_at d.table (set_of d.geometry block) way) (tag_of d.geometry block) there.tag)
    (λ other below passes. alone other (has_tag-is (tag_at d.table (set_of d.geometry block) other) (tag_of d.geometry block) passes)))

-- a block whose tag no way has lies nowhere
pub way_of-none : (d : Directory) (block : ℕ)
    → ((way : ℕ) → tag_at d.table (set_of d.geometry block) way ≢ Some (tag_of d.geometry block)) → way_of d block ≡ None
unfolding way_of
way_of-none d block never =
    let none : way_by_tag d.table (set_of d.geometry block) (tag_of d.geometry block) ≡ None =
    none-lowest (λ w. has_tag (tag_at d.table (set_of d.geometry block) w) (tag_of d.geometry block)) d.table.ways
    (λ way below. has_tag-not (tag_at d.table (set_of d.geometry block) way) (tag_of d.geometry block) (never way)) in
    rw none (either (bank_of d.geometry block == d.bank) None)
  where
    either : (own : Bool) (way : Option ℕ) → (if own then way else way) ≡ way
    either true way = refl
    either false way = refl

-- a block of another bank lies nowhere
pub way_of-elsewhere : (d : Directory) (block : ℕ) → bank_of d.geometry block ≢ d.bank → way_of d block ≡ None
unfolding way_of
way_of-elsewhere d block other = rw (ne_eqb (bank_of d.geometry block) d.bank other) refl

-- ## A block that home holds

-- home's copy of it
pub line_of-held : (d : Directory) (block set way : ℕ) (entry : Entry) → IsHeld d block set way entry
    → line_of d block ≡ Some (record { bytes = bytes_at d.store set way; dirty = entry.dirty })
unfolding line_of
line_of-held d block set way entry held = rw (held.lies, ← held.in_set, held.line) refl

-- what home records of it
pub recorded_of-held : (d : Directory) (client block set way : ℕ) (entry : Entry) → IsHeld d block set way entry
    → recorded_of d client block ≡ entry_perm entry client
unfolding recorded_of
recorded_of-held d client block set way entry held = rw (held.lies, ← held.in_set, held.line) refl

-- what home has of a block that it does not hold
pub line_of-none : (d : Directory) (block : ℕ) → way_of d block ≡ None → line_of d block ≡ None
unfolding line_of
line_of-none d block none = rw none refl

-- a block without a line lies nowhere
pub way_of-no_line : (d : Directory) (block : ℕ) → line_of d block ≡ None → way_of d block ≡ None
unfolding line_of
way_of-no_line d block none = of_line (way_of d block) none
  where
    of_line : (way : Option ℕ) → option_map (copy_at d (set_of d.geometry block)) way ≡ None → way ≡ None
    of_line None is = refl
    of_line (Some way) is = absurd (cc)

-- home records nothing for any client of a block that lies nowhere
pub recorded_of-none : (d : Directory) (client block : ℕ) → way_of d block ≡ None → recorded_of d client block ≡ NoAccess
unfolding recorded_of
recorded_of-none d client block none = rw none refl

-- ## A way changes

-- an entry, where there is one, has this tag
abbrev pub OnlyTag : Option Entry → ℕ → Type 0
OnlyTag None tag = Unit {0}
OnlyTag (Some entry) tag = entry.tag ≡ tag

-- the entry of one way of a block's set changes, and perhaps the bytes there; no other block lies or lay there
pub record Changes (d after : Directory) (block set way : ℕ) (entry : Option Entry) : Type 0 where
  pub geometry : after.geometry ≡ d.geometry
  pub bank : after.bank ≡ d.bank
  pub ways : after.table.ways ≡ d.table.ways
  pub own : bank_of d.geometry block ≡ d.bank
  pub in_set : set ≡ set_of d.geometry block
  pub lines : (x y : ℕ) → entry_at after.table x y ≡ (if x == set && y == way then entry else entry_at d.table x y)
  pub bytes : (x y : ℕ) → y < d.table.ways → (x == set && y == way) ≡ false → bytes_at after.store x y ≡ bytes_at d.store x y
  pub before : OnlyTag (entry_at d.table set way) (tag_of d.geometry block)
  pub now : OnlyTag entry (tag_of d.geometry block)

-- another tag is not an entry's
not_tagged : (line : Option Entry) (tag other : ℕ) → OnlyTag line tag → other ≢ tag → has_tag (tag_in_entry line) other ≡ false
not_tagged None tag other only apart = refl
not_tagged (Some entry) tag other only apart = ne_eqb entry.tag other (λ same. apart (sym same ∙ only))

module _ {d after : Directory} {block set way : ℕ} {entry : Option Entry} (c : Changes d after block set way entry) where
  -- whether a place is the one that changes
  abbrev here : ℕ → ℕ → Bool
  here x y = x == set && y == way

  line-same : (x y : ℕ) → here x y ≡ false → entry_at after.table x y ≡ entry_at d.table x y
  line-same x y other = rw (c.lines x y, other) refl

  line-here : (x y : ℕ) → here x y ≡ true → entry_at after.table x y ≡ entry
  line-here x y same = rw (c.lines x y, same) refl

  -- another block of the bank that has this set has another tag
  other_tag : (b : ℕ) → b ≢ block → bank_of d.geometry b ≡ d.bank → set_of d.geometry b ≡ set → tag_of d.geometry b ≢ tag_of d.geometry block
  other_tag b apart own sets tags = apart (same_block d.geometry b block (own ∙ sym c.own) (sets ∙ c.in_set) tags)

  tags-agree : (b : ℕ) → b ≢ block → bank_of d.geometry b ≡ d.bank → (y : ℕ) (there : Bool) → here (set_of d.geometry b) y ≡ there
      → has_tag (tag_at after.table (set_of d.geometry b) y) (tag_of d.geometry b) ≡ has_tag (tag_at d.table (set_of d.geometry b) y) (tag_of d.geometry b)
  tags-agree b apart own y false is = rw (line-same (set_of d.geometry b) y is) refl
  tags-agree b apart own y true is =
      let parts = and_parts (set_of d.geometry b == set) (y == way) is in
      let sets : set_of d.geometry b ≡ set = eqb-true (set_of d.geometry b) set parts.0 in
      let at : y ≡ way = eqb-true y way parts.1 in
      let tags : tag_of d.geometry b ≢ tag_of d.geometry block = other_tag b apart own sets in
      let old : entry_at d.table (set_of d.geometry b) y ≡ entry_at d.table set way = rw (sets, at) refl in
      let first : has_tag (tag_in_entry entry) (tag_of d.geometry b) ≡ false = not_tagged entry (tag_of d.geometry block) (tag_of d.geometry b) c.now tags in
      let second : has_tag (tag_in_entry (entry_at d.table set way)) (tag_of d.geometry b) ≡ false =
      not_tagged (entry_at d.table set way) (tag_of d.geometry block) (tag_of d.geometry b) c.before tags in
      rw (line-here (set_of d.geometry b) y is, old) (first ∙ sym second)

  -- another block lies where it lay
  pub way_of-other : (b : ℕ) → b ≢ block → way_of after b ≡ way_of d b
  unfolding way_of
  way_of-other b apart = by_bank (bank_of d.geometry b == d.bank) refl
    where
      by_bank : (own : Bool) → (bank_of d.geometry b == d.bank) ≡ own
          → (if bank_of after.geometry b == after.bank then way_by_tag after.table (set_of after.geometry b) (tag_of after.geometry b) else None)
          ≡ (if bank_of d.geometry b == d.bank then way_by_tag d.table (set_of d.geometry b) (tag_of d.geometry b) else None)
      by_bank own is =
          let test : (bank_of after.geometry b == after.bank) ≡ own =
          ap (λ (g : Numbers). bank_of g b == after.bank) c.geometry ∙ ap (λ k. bank_of d.geometry b == k) c.bank ∙ is in
          ap (λ t. if t then way_by_tag after.table (set_of after.geometry b) (tag_of after.geometry b) else None) test
          ∙ by_own own is
          ∙ sym (ap (λ t. if t then way_by_tag d.table (set_of d.geometry b) (tag_of d.geometry b) else None) is)
        where
          by_own : (own : Bool) → (bank_of d.geometry b == d.bank) ≡ own
              → (if own then way_by_tag after.table (set_of after.geometry b) (tag_of after.geometry b) else None)
              ≡ (if own then way_by_tag d.table (set_of d.geometry b) (tag_of d.geometry b) else None)
          by_own false is = refl
          by_own true is =
              let own : bank_of d.geometry b ≡ d.bank = eqb-true (bank_of d.geometry b) d.bank is in
              ap (λ (g : Numbers). way_by_tag after.table (set_of g b) (tag_of g b)) c.geometry
              ∙ ap (λ n. lowest (λ y. has_tag (tag_at after.table (set_of d.geometry b) y) (tag_of d.geometry b)) n) c.ways
              ∙ lowest-same (λ y. has_tag (tag_at after.table (set_of d.geometry b) y) (tag_of d.geometry b))
              (λ y. has_tag (tag_at d.table (set_of d.geometry b) y) (tag_of d.geometry b)) d.table.ways
              (λ y below. tags-agree b apart own y (here (set_of d.geometry b) y) refl)

  -- and not where the change is
  not_here : (b y : ℕ) → b ≢ block → way_of d b ≡ Some y → (there : Bool) → here (set_of d.geometry b) y ≡ there → there ≡ false
  not_here b y apart lies false is = refl
  not_here b y apart lies true is =
      let at = IsThere-of d b y lies in
      let parts = and_parts (set_of d.geometry b == set) (y == way) is in
      let sets : set_of d.geometry b ≡ set = eqb-true (set_of d.geometry b) set parts.0 in
      let w : y ≡ way = eqb-true y way parts.1 in
      let tags = other_tag b apart at.own sets in
      let tagged : has_tag (tag_at d.table set way) (tag_of d.geometry b) ≡ true =
      has_tag-same (tag_at d.table set way) (tag_of d.geometry b) (rw (← sets, ← w) at.tag) in
      let not : has_tag (tag_at d.table set way) (tag_of d.geometry b) ≡ false =
      not_tagged (entry_at d.table set way) (tag_of d.geometry block) (tag_of d.geometry b) c.before tags in
      absurd (cc)

  -- home's copy of another block is as before
  pub line_of-other : (b : ℕ) → b ≢ block → line_of after b ≡ line_of d b
  unfolding line_of
  line_of-other b apart =
      ap (λ (g : Numbers). option_map (copy_at after (set_of g b)) (way_of after b)) c.geometry
      ∙ ap (λ w. option_map (copy_at after (set_of d.geometry b)) w) (way_of-other b apart)
      ∙ by_way (way_of d b) refl
    where
      by_way : (lies : Option ℕ) → way_of d b ≡ lies
          → option_map (copy_at after (set_of d.geometry b)) lies ≡ option_map (copy_at d (set_of d.geometry b)) lies
      by_way None is = refl
      by_way (Some y) is =
          let apart_there = not_here b y apart is (here (set_of d.geometry b) y) refl in
          let inside = (IsThere-of d b y is).inside in
          rw (line-same (set_of d.geometry b) y apart_there, c.bytes (set_of d.geometry b) y inside apart_there) refl

  -- and so is what home records of it
  pub recorded_of-other : (client b : ℕ) → b ≢ block → recorded_of after client b ≡ recorded_of d client b
  unfolding recorded_of
  recorded_of-other client b apart =
      ap (λ (g : Numbers). perm_in_way after (set_of g b) (way_of after b) client) c.geometry
      ∙ ap (λ w. perm_in_way after (set_of d.geometry b) w client) (way_of-other b apart)
      ∙ by_way (way_of d b) refl
    where
      by_way : (lies : Option ℕ) → way_of d b ≡ lies
          → perm_in_way after (set_of d.geometry b) lies client ≡ perm_in_way d (set_of d.geometry b) lies client
      by_way None is = refl
      by_way (Some y) is = rw (line-same (set_of d.geometry b) y (not_here b y apart is (here (set_of d.geometry b) y) refl)) refl

-- what is so of one block and of each other is so of all
pub by_block : {X : Type 0} (b block : ℕ) (after here before : X) → (b ≡ block → after ≡ here) → (b ≢ block → after ≡ before)
    → after ≡ (if b == block then here else before)
by_block {X} b block after here before same other =
    elim (cases_eq b block) [
      | inl is ↦ rw (eq-eqb b block is) (same is)
      | inr apart ↦ rw (ne_eqb b block apart) (other apart)
    ]

-- ## An entry is replaced

-- a block's entry is replaced, and perhaps the bytes beside it
pub record Replaces (d after : Directory) (block set way : ℕ) (old new : Entry) : Type 0 where
  pub held : IsHeld d block set way old
  pub tag : new.tag ≡ old.tag
  pub geometry : after.geometry ≡ d.geometry
  pub bank : after.bank ≡ d.bank
  pub sets : set_count after.table ≡ set_count d.table
  pub ways : after.table.ways ≡ d.table.ways
  pub lines : (x y : ℕ) → entry_at after.table x y ≡ (if x == set && y == way then Some new else entry_at d.table x y)
  pub bytes : (x y : ℕ) → y < d.table.ways → (x == set && y == way) ≡ false → bytes_at after.store x y ≡ bytes_at d.store x y

-- a place is itself
pub here_true : (x y : ℕ) → (x == x && y == y) ≡ true
here_true x y = rw (eq-eqb x x refl, eq-eqb y y refl) refl

-- another way is another place
pub at_way : (x y set way : ℕ) → y ≢ way → (x == set && y == way) ≡ false
at_way x y set way apart = rw (ne_eqb y way apart) (and_false (x == set))
  where
    and_false : (b : Bool) → (b && false) ≡ false
    and_false true = refl
    and_false false = refl

module _ {d after : Directory} {block set way : ℕ} {old new : Entry} (r : Replaces d after block set way old new) where
  changes : Changes d after block set way (Some new)
  changes = record {
    geometry = r.geometry;
    bank = r.bank;
    ways = r.ways;
    own = r.held.own;
    in_set = r.held.in_set;
    lines = r.lines;
    bytes = r.bytes;
    before = rw r.held.line r.held.tag;
    now = r.tag ∙ r.held.tag;
  }

  line_now : entry_at after.table set way ≡ Some new
  line_now = rw (r.lines set way, here_true set way) refl

  -- the tag stands in no other way
  alone_now : (other : ℕ) → tag_at after.table set other ≡ Some new.tag → other ≡ way
  alone_now other tagged =
      elim (cases_eq other way) [
        | inl same ↦ same
        | inr apart ↦
            let line : entry_at after.table set other ≡ entry_at d.table set other = rw (r.lines set other, at_way set other set way apart) refl in
            r.held.alone other (ap tag_in_entry (sym line) ∙ tagged ∙ ap Some r.tag)
      ]

  -- home holds the block as before
  pub held_after : IsHeld after block set way new
  held_after =
      let tag : new.tag ≡ tag_of after.geometry block = r.tag ∙ r.held.tag ∙ sym (ap (λ (g : Numbers). tag_of g block) r.geometry) in
      let sets : set ≡ set_of after.geometry block = r.held.in_set ∙ sym (ap (λ (g : Numbers). set_of g block) r.geometry) in
      let own : bank_of after.geometry block ≡ after.bank = ap (λ (g : Numbers). bank_of g block) r.geometry ∙ r.held.own ∙ sym r.bank in
      let inside : way < after.table.ways = subst (λ n. way < n) (sym r.ways) r.held.inside in
      record {
        own = own;
        in_set = sets;
        set_inside = subst (λ n. set < n) (sym r.sets) r.held.set_inside;
        lies = way_of-found after block way (record { own = own; inside = inside; tag = rw (← sets, line_now, ← tag) refl })
            (rw (← sets, ← tag) alone_now);
        inside = inside;
        line = line_now;
        tag = tag;
        alone = alone_now;
      }

  -- each block lies where it lay
  pub ways-kept : (b : ℕ) → way_of after b ≡ way_of d b
  ways-kept b =
      elim (cases_eq b block) [
        | inl same ↦ rw same (held_after.lies ∙ sym r.held.lies)
        | inr apart ↦ way_of-other changes b apart
      ]

  -- the block's line is the new one
  pub lines-written : (bytes : List ℕ) (dirty : Bool) → bytes_at after.store set way ≡ bytes → new.dirty ≡ dirty
      → (b : ℕ) → line_of after b ≡ (if b == block then Some (record { bytes = bytes; dirty = dirty }) else line_of d b)
  lines-written bytes dirty is dirt b =
      by_block b block (line_of after b) (Some (record { bytes = bytes; dirty = dirty })) (line_of d b)
      (λ same. rw (same, line_of-held after block set way new held_after, is, dirt) refl) (line_of-other changes b)

  -- each line stays where the bytes and their dirt do
  pub lines-kept : bytes_at after.store set way ≡ bytes_at d.store set way → new.dirty ≡ old.dirty → (b : ℕ) → line_of after b ≡ line_of d b
  lines-kept bytes dirty b =
      elim (cases_eq b block) [
        | inl same ↦
            rw (same, line_of-held after block set way new held_after, line_of-held d block set way old r.held, bytes, dirty) refl
        | inr apart ↦ line_of-other changes b apart
      ]

  -- the same ways are free
  pub free-kept : (x y : ℕ) → free_in after x y ≡ free_in d x y
  unfolding free_in
  free-kept x y = ap is_none (r.lines x y) ∙ by_place (x == set && y == way) refl
    where
      by_place : (there : Bool) → (x == set && y == way) ≡ there → is_none (if x == set && y == way then Some new else entry_at d.table x y) ≡ is_none (entry_at d.table x y)
      by_place false is = rw is refl
      by_place true is =
          let parts = and_parts (x == set) (y == way) is in
          rw (is, eqb-true x set parts.0, eqb-true y way parts.1, r.held.line) refl

  -- one client's record is the new one
  pub recorded-set : (client : ℕ) (perm : Perm) → ((x : ℕ) → entry_perm new x ≡ (if x == client then perm else entry_perm old x))
      → (x b : ℕ) → recorded_of after x b ≡ (if x == client && b == block then perm else recorded_of d x b)
  recorded-set client perm perms x b =
      elim (cases_eq b block) [
        | inl same ↦
            rw (same, recorded_of-held after x block set way new held_after, recorded_of-held d x block set way old r.held, perms x, eq-eqb block block refl)
            (and_true (x == client) perm (entry_perm old x))
        | inr apart ↦
            rw (recorded_of-other changes x b apart, ne_eqb b block apart) (and_false (x == client) perm (recorded_of d x b))
      ]
    where
      and_true : (a : Bool) (p q : Perm) → (if a then p else q) ≡ (if a && true then p else q)
      and_true true p q = refl
      and_true false p q = refl

      and_false : (a : Bool) (p q : Perm) → q ≡ (if a && false then p else q)
      and_false true p q = refl
      and_false false p q = refl

  -- each record stays where the entry's do
  pub recorded-kept : ((x : ℕ) → entry_perm new x ≡ entry_perm old x) → (x b : ℕ) → recorded_of after x b ≡ recorded_of d x b
  recorded-kept perms x b =
      elim (cases_eq b block) [
        | inl same ↦
            rw (same, recorded_of-held after x block set way new held_after, recorded_of-held d x block set way old r.held, perms x) refl
        | inr apart ↦ recorded_of-other changes x b apart
      ]

-- ## The directory as the code has it

-- a directory by its parts
abbrev pub dir : Numbers → ℕ → WayTable → Store → Directory
dir g bank table store = record { geometry = g; bank = bank; table = table; store = store }

-- an entry is replaced in the code's tables; m is what contracts see of them
pub replaces : (m : Directory) (g : Numbers) (bank : ℕ) (t after : WayTable) (s store : Store) (block set way : ℕ) (old new : Entry)
    → dir g bank t s ≡ m → IsHeld m block set way old → new.tag ≡ old.tag → IsSameSize t after
    → ((x y : ℕ) → entry_at after x y ≡ (if x == set && y == way then Some new else entry_at t x y))
    → ((x y : ℕ) → y < t.ways → (x == set && y == way) ≡ false → bytes_at store x y ≡ bytes_at s x y)
    → Replaces m (dir g bank after store) block set way old new
replaces m g bank t after s store block set way old new view held tag size lines bytes =
    subst (λ (d : Directory). IsHeld d block set way old → Replaces d (dir g bank after store) block set way old new) view
    (λ here. record {
      held = here;
      tag = tag;
      geometry = refl;
      bank = refl;
      sets = size.sets;
      ways = size.ways;
      lines = lines;
      bytes = bytes;
    }) held

-- what a write of bytes leaves elsewhere
pub written_other : (g : Numbers) (bank : ℕ) (t : WayTable) (s store : Store) (set way : ℕ) (bytes : List ℕ) → IsDirectory (dir g bank t s)
    → ((x y : ℕ) → y < s.ways → bytes_at store x y ≡ (if x == set && y == way then bytes else bytes_at s x y))
    → (x y : ℕ) → y < t.ways → (x == set && y == way) ≡ false → bytes_at store x y ≡ bytes_at s x y
written_other g bank t s store set way bytes sound written x y inside other =
    written x y (subst (λ n. y < n) (sym (sound.store_ways ∙ sym sound.ways)) inside) ∙ ap (λ there. if there then bytes else bytes_at s x y) other

-- and in its place
pub written_here : (m : Directory) (g : Numbers) (bank : ℕ) (t : WayTable) (s store : Store) (block set way : ℕ) (entry : Entry) (bytes : List ℕ)
    → dir g bank t s ≡ m → IsDirectory (dir g bank t s) → IsHeld m block set way entry
    → ((x y : ℕ) → y < s.ways → bytes_at store x y ≡ (if x == set && y == way then bytes else bytes_at s x y))
    → bytes_at store set way ≡ bytes
written_here m g bank t s store block set way entry bytes view sound held written =
    let inside : way < t.ways = subst (λ (d : Directory). way < d.table.ways) (sym view) held.inside in
    written set way (subst (λ n. way < n) (sym (sound.store_ways ∙ sym sound.ways)) inside)
    ∙ ap (λ there. if there then bytes else bytes_at s set way) (here_true set way)

-- an entry is replaced by itself where the lines stay
pub replaces-itself : (m : Directory) (g : Numbers) (bank : ℕ) (t after : WayTable) (s : Store) (block set way : ℕ) (old : Entry)
    → dir g bank t s ≡ m → IsHeld m block set way old → IsSameSize t after → ((x y : ℕ) → entry_at after x y ≡ entry_at t x y)
    → Replaces m (dir g bank after s) block set way old old
replaces-itself m g bank t after s block set way old view held size lines =
    let line : entry_at t set way ≡ Some old = subst (λ (d : Directory). entry_at d.table set way ≡ Some old) (sym view) held.line in
    replaces m g bank t after s s block set way old old view held refl size
    (λ x y. lines x y ∙ sym (by_place x y line (x == set && y == way) refl)) (λ x y inside other. refl)
  where
    by_place : (x y : ℕ) → entry_at t set way ≡ Some old → (there : Bool) → (x == set && y == way) ≡ there
        → (if x == set && y == way then Some old else entry_at t x y) ≡ entry_at t x y
    by_place x y line false is = rw is refl
    by_place x y line true is =
        let parts = and_parts (x == set) (y == way) is in
        rw (is, eqb-true x set parts.0, eqb-true y way parts.1, line) refl

-- the orders stay where the code's do
pub orders-kept : (m : Directory) (g : Numbers) (bank : ℕ) (t after : WayTable) (s store : Store) → dir g bank t s ≡ m
    → ((x : ℕ) → order_at after x ≡ order_at t x) → (x : ℕ) → order_of (dir g bank after store) x ≡ order_of m x
unfolding order_of
orders-kept m g bank t after s store view same x = same x ∙ ap (λ (d : Directory). order_at d.table x) view

-- the order of the block's set after its way is touched
pub orders-touched : (m : Directory) (g : Numbers) (bank : ℕ) (t after : WayTable) (s store : Store) (block set way : ℕ) (entry : Entry)
    → dir g bank t s ≡ m → IsHeld m block set way entry
    → ((x : ℕ) → order_at after x ≡ (if x == set then touched way (order_at t set) else order_at t x))
    → (x : ℕ)
    → order_of (dir g bank after store) x
    ≡ (if x == set_of m.geometry block then order_after (way_of m block) (order_of m x) else order_of m x)
unfolding order_of
orders-touched m g bank t after s store block set way entry view held moved x =
    let table : m.table ≡ t = ap (λ (d : Directory). d.table) (sym view) in
    rw (held.lies, ← held.in_set, table) (moved x ∙ by_set (x == set) refl)
  where
    by_set : (here : Bool) → (x == set) ≡ here
        → (if x == set then touched way (order_at t set) else order_at t x) ≡ (if x == set then touched way (order_at t x) else order_at t x)
    by_set false is = rw is refl
    by_set true is = rw (is, eqb-true x set is) refl

-- what a search of a set says of a block of the bank
pub held-found : (m : Directory) (g : Numbers) (bank : ℕ) (t : WayTable) (s : Store) (block set tag way : ℕ) (entry : Entry)
    → dir g bank t s ≡ m → bank_of g block ≡ bank → set ≡ set_of g block → tag ≡ tag_of g block → set < set_count t
    → tag_at t set way ≡ Some tag → way < t.ways → ((other : ℕ) → tag_at t set other ≡ Some tag → other ≡ way)
    → entry_at t set way ≡ Some entry → IsHeld m block set way entry
held-found m g bank t s block set tag way entry view own sets tags inside tagged way_in alone line =
    let same : entry.tag ≡ tag = let one : Some entry.tag ≡ Some tag = sym (ap tag_in_entry line) ∙ tagged in cc in
    subst (λ (d : Directory). IsHeld d block set way entry) view
    (record {
      own = own;
      in_set = sets;
      set_inside = inside;
      lies = way_of-found (dir g bank t s) block way (record { own = own; inside = way_in; tag = rw (← sets, ← tags) tagged })
          (rw (← sets, ← tags) alone);
      inside = way_in;
      line = line;
      tag = same ∙ tags;
      alone = rw same alone;
    })

-- a way with a tag has an entry
tagged : (entry : Option Entry) (tag : ℕ) → tag_in_entry entry ≡ Some tag → IsSome entry
tagged None tag is = absurd (cc)
tagged (Some entry) tag is = refl

-- where a block lies there is an entry
pub some-entry : (m : Directory) (g : Numbers) (bank : ℕ) (t : WayTable) (s : Store) (block way : ℕ) → dir g bank t s ≡ m
    → way_of m block ≡ Some way → IsSome (entry_at t (set_of g block) way)
some-entry m g bank t s block way view lies =
    let there : IsThere (dir g bank t s) block way =
    IsThere-of (dir g bank t s) block way (subst (λ (d : Directory). way_of d block ≡ Some way) (sym view) lies) in
    tagged (entry_at t (set_of g block) way) (tag_of g block) there.tag

-- and it is the block's
pub held-at : (m : Directory) (g : Numbers) (bank : ℕ) (t : WayTable) (s : Store) (block set way : ℕ) (entry : Entry)
    → dir g bank t s ≡ m → IsDirectory (dir g bank t s) → way_of m block ≡ Some way → set ≡ set_of g block → set < set_count t
    → entry_at t set way ≡ Some entry → IsHeld m block set way entry
held-at m g bank t s block set way entry view keeps lies sets inside line =
    let there : IsThere (dir g bank t s) block way =
    IsThere-of (dir g bank t s) block way (subst (λ (d : Directory). way_of d block ≡ Some way) (sym view) lies) in
    let tag_here : tag_at t set way ≡ Some (tag_of g block) = rw sets there.tag in
    held-found m g bank t s block set (tag_of g block) way entry view there.own sets refl inside tag_here there.inside
    (λ other is. keeps.distinct set other way (tag_of g block) is tag_here) line

-- a block whose tag no way of its set has lies nowhere
pub none-found : (m : Directory) (g : Numbers) (bank : ℕ) (t : WayTable) (s : Store) (block set tag : ℕ)
    → dir g bank t s ≡ m → set ≡ set_of g block → tag ≡ tag_of g block → ((way : ℕ) → tag_at t set way ≢ Some tag) → way_of m block ≡ None
none-found m g bank t s block set tag view sets tags none =
    subst (λ (d : Directory). way_of d block ≡ None) view (way_of-none (dir g bank t s) block (rw (← sets, ← tags) none))

-- a block of another bank lies nowhere
pub elsewhere : (m : Directory) (g : Numbers) (bank : ℕ) (t : WayTable) (s : Store) (block : ℕ) → dir g bank t s ≡ m → bank_of g block ≢ bank
    → way_of m block ≡ None
elsewhere m g bank t s block view other =
    subst (λ (d : Directory). way_of d block ≡ None) view (way_of-elsewhere (dir g bank t s) block other)

-- the choice of a way
pub choice : (m : Directory) (g : Numbers) (bank : ℕ) (t : WayTable) (s : Store) (set : ℕ) (busy : List ℕ) → dir g bank t s ≡ m → t.ways ≡ g.ways
    → chosen_at t set busy ≡ chosen (λ way. free_in m set way) m.geometry.ways (order_of m set) busy
unfolding free_in order_of
choice m g bank t s set busy view ways =
    subst (λ (d : Directory). chosen_at t set busy ≡ chosen (λ way. is_none (entry_at d.table set way)) d.geometry.ways (order_at d.table set) busy) view
    (ap (λ n. chosen (λ way. is_none (entry_at t set way)) n (order_at t set) busy) ways)

-- ## What is kept

-- a way that an entry has is one of the ways
entry_inside : (d : Directory) (set way : ℕ) (entry : Entry) → IsDirectory d → entry_at d.table set way ≡ Some entry → way < d.table.ways
entry_inside d set way entry sound is =
    elim (cases_order way d.table.ways) [
      | inl same ↦ absurd (let none = sound.outside set way (omega arith) in cc)
      | inr (inl less) ↦ less
      | inr (inr more) ↦ absurd (let none = sound.outside set way (omega arith) in cc)
    ]

-- a way that has a tag has an entry with that tag
line_of_tag : (line : Option Entry) (tag : ℕ) → tag_in_entry line ≡ Some tag → (entry : Entry) × (line ≡ Some entry) × (entry.tag ≡ tag)
line_of_tag None tag is = absurd (cc)
line_of_tag (Some entry) tag is = (entry, refl, cc)

-- a block of the bank lies where its tag stands
pub tag_lies : (d : Directory) (block way : ℕ) → IsDirectory d → bank_of d.geometry block ≡ d.bank
    → tag_at d.table (set_of d.geometry block) way ≡ Some (tag_of d.geometry block) → way_of d block ≡ Some way
tag_lies d block way sound own tagged =
    let set = set_of d.geometry block in
    let found = line_of_tag (entry_at d.table set way) (tag_of d.geometry block) tagged in
    way_of-found d block way (record { own = own; inside = entry_inside d set way found.0 sound found.1; tag = tagged })
    (λ other same. sound.distinct set other way (tag_of d.geometry block) same tagged)

-- a block of the bank that lies nowhere has its tag nowhere
pub untagged : (d : Directory) (block way : ℕ) → IsDirectory d → bank_of d.geometry block ≡ d.bank → way_of d block ≡ None
    → tag_at d.table (set_of d.geometry block) way ≢ Some (tag_of d.geometry block)
untagged d block way sound own none tagged = let lies = tag_lies d block way sound own tagged in cc

-- after an entry is replaced the directory is sound
pub IsDirectory-replaced : (g : Numbers) (bank : ℕ) (t after : WayTable) (s store : Store) (set way : ℕ) (old new : Entry)
    → IsDirectory (dir g bank t s) → entry_at t set way ≡ Some old → new.tag ≡ old.tag → IsSameSize t after
    → ((x y : ℕ) → entry_at after x y ≡ (if x == set && y == way then Some new else entry_at t x y))
    → store.sets ≡ s.sets → store.ways ≡ s.ways → (IsOfClients g.clients old → IsOfClients g.clients new)
    → IsDirectory (dir g bank after store)
IsDirectory-replaced g bank t after s store set way old new sound line tag size lines sets ways recorded =
    record {
      sets = size.sets ∙ sound.sets;
      ways = size.ways ∙ sound.ways;
      store_sets = sets ∙ sound.store_sets;
      store_ways = ways ∙ sound.store_ways;
      outside = λ x y past. lines x y ∙ outside x y (rw (← size.ways) past) (x == set && y == way) refl;
      distinct = λ x v w k first second. sound.distinct x v w k (sym (tags x v) ∙ first) (sym (tags x w) ∙ second);
      placed = λ x y entry is. placed x y entry (x == set && y == way) refl (sym (lines x y) ∙ is);
      clients = λ x y entry is. clients x y entry (x == set && y == way) refl (sym (lines x y) ∙ is);
    }
  where
    at : (x y : ℕ) → (x == set && y == way) ≡ true → entry_at t x y ≡ Some old
    at x y is =
        let parts = and_parts (x == set) (y == way) is in
        rw (eqb-true x set parts.0, eqb-true y way parts.1) line

    outside : (x y : ℕ) → t.ways ≤ y → (there : Bool) → (x == set && y == way) ≡ there → (if x == set && y == way then Some new else entry_at t x y) ≡ None
    outside x y past false is = rw is (sound.outside x y past)
    outside x y past true is = absurd (let none = sound.outside x y past in let some = at x y is in cc)

    tags_by : (x y : ℕ) (there : Bool) → (x == set && y == way) ≡ there
        → tag_in_entry (if x == set && y == way then Some new else entry_at t x y) ≡ tag_at t x y
    tags_by x y false is = rw is refl
    tags_by x y true is = rw (is, at x y is) (ap Some tag)

    tags : (x y : ℕ) → tag_at after x y ≡ tag_at t x y
    tags x y = ap tag_in_entry (lines x y) ∙ tags_by x y (x == set && y == way) refl

    placed : (x y : ℕ) (entry : Entry) (there : Bool) → (x == set && y == way) ≡ there
        → (if x == set && y == way then Some new else entry_at t x y) ≡ Some entry → IsPlaced g bank x entry.tag
    placed x y entry false is line = sound.placed x y entry (rw is at line)
    placed x y entry true is line =
        let new_is : Some new ≡ Some entry = rw is at line in
        let same : new ≡ entry = cc in
        let tags : old.tag ≡ entry.tag = sym tag ∙ ap (λ (e : Entry). e.tag) same in
        subst (λ k. IsPlaced g bank x k) tags (sound.placed x y old (at x y is))

    clients : (x y : ℕ) (entry : Entry) (there : Bool) → (x == set && y == way) ≡ there
        → (if x == set && y == way then Some new else entry_at t x y) ≡ Some entry → IsOfClients g.clients entry
    clients x y entry false is line = sound.clients x y entry (rw is at line)
    clients x y entry true is line =
        let new_is : Some new ≡ Some entry = rw is at line in
        let same : new ≡ entry = cc in
        subst (λ e. IsOfClients g.clients e) same (recorded (sound.clients x y old (at x y is)))

-- ## Blocks by their ways

-- the block whose place this is lies there
pub block_lies : (m : Directory) (g : Numbers) (bank : ℕ) (t : WayTable) (s : Store) (set way block : ℕ) (entry : Entry)
    → dir g bank t s ≡ m → IsDirectory (dir g bank t s) → entry_at t set way ≡ Some entry
    → place_of g block ≡ record { bank = bank; set = set; tag = entry.tag } → (set_of m.geometry block ≡ set) × (way_of m block ≡ Some way)
block_lies m g bank t s set way block entry view sound line place =
    let own : bank_of g block ≡ bank = ap (λ (p : Place). p.bank) place in
    let sets : set_of g block ≡ set = ap (λ (p : Place). p.set) place in
    let tags : tag_of g block ≡ entry.tag = ap (λ (p : Place). p.tag) place in
    subst (λ (d : Directory). (set_of d.geometry block ≡ set) × (way_of d block ≡ Some way)) view
    (sets, tag_lies (dir g bank t s) block way sound own (rw (sets, tags, line) refl))

-- what is said of a value leads on
pub on_some : {T : Type 0} {P Q : T → Type 0} (o : Option T) → ((x : T) → P x → Q x) → IfSome o P → IfSome o Q
on_some None f p = p
on_some (Some x) f p = f x p

-- a way is free where it has no entry
pub free-is : (m : Directory) (g : Numbers) (bank : ℕ) (t : WayTable) (s : Store) (set way : ℕ) → dir g bank t s ≡ m
    → free_in m set way ≡ is_none (entry_at t set way)
unfolding free_in
free-is m g bank t s set way view = ap (λ (d : Directory). is_none (entry_at d.table set way)) (sym view)

-- a way with an entry has a block
pub block_found : (g : Numbers) (bank set tag : ℕ) (found : Option ℕ) → IsPlaced g bank set tag
    → IfNone found ((block : ℕ) → block < g.memory_blocks → place_of g block ≢ record { bank = bank; set = set; tag = tag })
    → is_none found ≡ false
block_found g bank set tag None placed none = absurd (none placed.block placed.inside placed.place)
block_found g bank set tag (Some block) placed none = refl

-- where the test says that a way has no entry, it has none
none_free : (line : Option Entry) → is_none line ≡ true → line ≡ None
none_free None is = refl
none_free (Some entry) is = absurd (cc)

-- a free way has no entry
pub free_line : (m : Directory) (g : Numbers) (bank : ℕ) (t : WayTable) (s : Store) (set way : ℕ) → dir g bank t s ≡ m
    → free_in m set way ≡ true → entry_at t set way ≡ None
free_line m g bank t s set way view free = none_free (entry_at t set way) (sym (free-is m g bank t s set way view) ∙ free)

-- ## A directory that is made

-- where no way has an entry, no block lies in any
pub ways-fresh : (g : Numbers) (bank : ℕ) (t : WayTable) (s : Store) → ((set way : ℕ) → entry_at t set way ≡ None) → (b : ℕ)
    → way_of (dir g bank t s) b ≡ None
ways-fresh g bank t s free b =
    way_of-none (dir g bank t s) b (λ way tagged. let none : None ≡ Some (tag_of g b) = sym (ap tag_in_entry (free (set_of g b) way)) ∙ tagged in cc)
