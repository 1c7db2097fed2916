-- What the directory holds of each block after one leaves or comes.
use Rattle.std.proofs.Common.{◌≡◌, ◌≢◌, ℕ, ◌<◌, ◌==◌, ◌&&◌, Bool, true, false, List, Option, None, Some, if◌then◌else◌, refl, sym, ◌∙◌, ap, arith, eqb-true, inl, inr, subst}
use Rattle.std.specs.Prelude.{is_none, ◌≤◌}
use Rattle.std.proofs.lemmas.Bool.{cases_eq, and_parts}
use Rattle.tl_types.specs.declared.permission.Perm.TheVariants.{None as NoAccess}
use Rattle.tl_map.specs.Numbers.{Numbers}
use Rattle.tl_map.specs.Places.{bank_of, set_of, tag_of, place_of}
use Rattle.tl_ways.specs.Entries.{Entry, IsOfClients, entry_perm}
use Rattle.tl_ways.specs.Rows.{tag_in_entry}
use Rattle.tl_ways.specs.Tables.{WayTable, IsSameSize, entry_at, set_count, tag_at}
use Rattle.tl_ways.specs.Stores.{Store, bytes_at}
use Rattle.tl_bank_home.specs.Directories.{Directory, way_of, line_of, recorded_of, free_in, is_way, IsDirectory, IsHeld, IsPlaced}
use Rattle.tl_bank_home.proofs.DirectoryLaws.{Changes, way_of-other, line_of-other, recorded_of-other, way_of-found, way_of-none, line_of-held, line_of-none, recorded_of-held, recorded_of-none, by_block, here_true, at_way, dir, untagged, free_line}

-- whether a place is free after a way changes
free_by : (there : Bool) (entry line : Option Entry) → is_none (if there then entry else line) ≡ (if there then is_none entry else is_none line)
free_by true entry line = refl
free_by false entry line = refl

-- ## A block leaves

-- the way of a block that home holds is freed
pub record Clears (d after : Directory) (block set way : ℕ) (entry : Entry) : Type 0 where
  pub held : IsHeld d block set way entry
  pub geometry : after.geometry ≡ d.geometry
  pub bank : after.bank ≡ d.bank
  pub ways : after.table.ways ≡ d.table.ways
  pub lines : (x y : ℕ) → entry_at after.table x y ≡ (if x == set && y == way then None else entry_at d.table x y)
  pub bytes : (x y : ℕ) → bytes_at after.store x y ≡ bytes_at d.store x y

-- a way is freed in the code's tables
pub clears : (m : Directory) (g : Numbers) (bank : ℕ) (t after : WayTable) (s : Store) (block set way : ℕ) (entry : Entry)
    → dir g bank t s ≡ m → IsHeld m block set way entry → IsSameSize t after
    → ((x y : ℕ) → entry_at after x y ≡ (if x == set && y == way then None else entry_at t x y))
    → Clears m (dir g bank after s) block set way entry
clears m g bank t after s block set way entry view held size lines =
    subst (λ (d : Directory). IsHeld d block set way entry → Clears d (dir g bank after s) block set way entry) view
    (λ here. record { held = here; geometry = refl; bank = refl; ways = size.ways; lines = lines; bytes = λ x y. refl }) held

module _ {d after : Directory} {block set way : ℕ} {entry : Entry} (r : Clears d after block set way entry) where
  leaving : Changes d after block set way None
  leaving = record {
    geometry = r.geometry;
    bank = r.bank;
    ways = r.ways;
    own = r.held.own;
    in_set = r.held.in_set;
    lines = r.lines;
    bytes = λ x y inside other. r.bytes x y;
    before = rw r.held.line r.held.tag;
    now = tt;
  }

  gone : way_of after block ≡ None
  gone =
      let sets : set ≡ set_of after.geometry block = r.held.in_set ∙ sym (ap (λ (g : Numbers). set_of g block) r.geometry) in
      let tags : entry.tag ≡ tag_of after.geometry block = r.held.tag ∙ sym (ap (λ (g : Numbers). tag_of g block) r.geometry) in
      way_of-none after block (rw (← sets, ← tags) (λ y tagged. untagged_now y tagged))
    where
      untagged_now : (y : ℕ) → tag_at after.table set y ≢ Some entry.tag
      untagged_now y tagged =
          elim (cases_eq y way) [
            | inl same ↦
                let line : entry_at after.table set y ≡ None = rw same (r.lines set way ∙ ap (λ there. if there then None else entry_at d.table set way) (here_true set way)) in
                let none : None ≡ Some entry.tag = sym (ap tag_in_entry line) ∙ tagged in
                cc
            | inr apart ↦
                let line : entry_at after.table set y ≡ entry_at d.table set y = r.lines set y ∙ ap (λ there. if there then None else entry_at d.table set y) (at_way set y set way apart) in
                apart (r.held.alone y (sym (ap tag_in_entry line) ∙ tagged))
          ]

  pub ways-cleared : (b : ℕ) → way_of after b ≡ (if b == block then None else way_of d b)
  ways-cleared b = by_block b block (way_of after b) None (way_of d b) (λ same. rw same gone) (way_of-other leaving b)

  pub lines-cleared : (b : ℕ) → line_of after b ≡ (if b == block then None else line_of d b)
  lines-cleared b = by_block b block (line_of after b) None (line_of d b) (λ same. rw same (line_of-none after block gone)) (line_of-other leaving b)

  pub recorded-cleared : (x b : ℕ) → recorded_of after x b ≡ (if b == block then NoAccess else recorded_of d x b)
  recorded-cleared x b =
      by_block b block (recorded_of after x b) NoAccess (recorded_of d x b) (λ same. rw same (recorded_of-none after x block gone))
      (recorded_of-other leaving x b)

  pub free-cleared : (x y : ℕ)
      → free_in after x y ≡ (if x == set_of d.geometry block && is_way (way_of d block) y then true else free_in d x y)
  unfolding free_in
  free-cleared x y =
      rw (r.held.lies, ← r.held.in_set) (ap is_none (r.lines x y) ∙ free_by (x == set && y == way) None (entry_at d.table x y))

-- ## A block comes

-- a free way takes a block that home does not hold
pub record Fills (d after : Directory) (block set way : ℕ) (entry : Entry) (bytes : List ℕ) : Type 0 where
  pub sound : IsDirectory d
  pub own : bank_of d.geometry block ≡ d.bank
  pub in_set : set ≡ set_of d.geometry block
  pub away : way_of d block ≡ None
  pub inside : way < d.table.ways
  pub free : entry_at d.table set way ≡ None
  pub tag : entry.tag ≡ tag_of d.geometry block
  pub nobody : (client : ℕ) → entry_perm entry client ≡ NoAccess
  pub clean : entry.dirty ≡ false
  pub geometry : after.geometry ≡ d.geometry
  pub bank : after.bank ≡ d.bank
  pub sets : set_count after.table ≡ set_count d.table
  pub set_inside : set < set_count d.table
  pub ways : after.table.ways ≡ d.table.ways
  pub lines : (x y : ℕ) → entry_at after.table x y ≡ (if x == set && y == way then Some entry else entry_at d.table x y)
  pub others : (x y : ℕ) → y < d.table.ways → (x == set && y == way) ≡ false → bytes_at after.store x y ≡ bytes_at d.store x y
  pub bytes_here : bytes_at after.store set way ≡ bytes

module _ {d after : Directory} {block set way : ℕ} {entry : Entry} {bytes : List ℕ} (r : Fills d after block set way entry bytes) where
  coming : Changes d after block set way (Some entry)
  coming = record {
    geometry = r.geometry;
    bank = r.bank;
    ways = r.ways;
    own = r.own;
    in_set = r.in_set;
    lines = r.lines;
    bytes = r.others;
    before = rw r.free tt;
    now = r.tag;
  }

  line_here : entry_at after.table set way ≡ Some entry
  line_here = r.lines set way ∙ ap (λ there. if there then Some entry else entry_at d.table set way) (here_true set way)

  alone_here : (other : ℕ) → tag_at after.table set other ≡ Some entry.tag → other ≡ way
  alone_here other tagged =
      elim (cases_eq other way) [
        | inl same ↦ same
        | inr apart ↦
            let line : entry_at after.table set other ≡ entry_at d.table set other = r.lines set other ∙ ap (λ there. if there then Some entry else entry_at d.table set other) (at_way set other set way apart) in
            let old : tag_at d.table set other ≡ Some entry.tag = sym (ap tag_in_entry line) ∙ tagged in
            absurd (untagged d block other r.sound r.own r.away (rw (← r.in_set, ← r.tag) old))
      ]

  pub held_here : IsHeld after block set way entry
  held_here =
      let tag : entry.tag ≡ tag_of after.geometry block = r.tag ∙ sym (ap (λ (g : Numbers). tag_of g block) r.geometry) in
      let sets : set ≡ set_of after.geometry block = r.in_set ∙ sym (ap (λ (g : Numbers). set_of g block) r.geometry) in
      let own : bank_of after.geometry block ≡ after.bank = ap (λ (g : Numbers). bank_of g block) r.geometry ∙ r.own ∙ sym r.bank in
      let inside : way < after.table.ways = subst (λ n. way < n) (sym r.ways) r.inside in
      record {
        own = own;
        in_set = sets;
        set_inside = subst (λ n. set < n) (sym r.sets) r.set_inside;
        lies = way_of-found after block way (record { own = own; inside = inside; tag = rw (← sets, line_here, ← tag) refl })
            (rw (← sets, ← tag) alone_here);
        inside = inside;
        line = line_here;
        tag = tag;
        alone = alone_here;
      }

  pub ways-filled : (b : ℕ) → way_of after b ≡ (if b == block then Some way else way_of d b)
  ways-filled b = by_block b block (way_of after b) (Some way) (way_of d b) (λ same. rw same held_here.lies) (way_of-other coming b)

  pub lines-filled : (b : ℕ) → line_of after b ≡ (if b == block then Some (record { bytes = bytes; dirty = false }) else line_of d b)
  lines-filled b =
      by_block b block (line_of after b) (Some (record { bytes = bytes; dirty = false })) (line_of d b)
      (λ same. rw (same, line_of-held after block set way entry held_here, r.bytes_here, r.clean) refl) (line_of-other coming b)

  pub recorded-filled : (x b : ℕ) → recorded_of after x b ≡ recorded_of d x b
  recorded-filled x b =
      elim (cases_eq b block) [
        | inl same ↦
            rw same (recorded_of-held after x block set way entry held_here ∙ r.nobody x ∙ sym (recorded_of-none d x block r.away))
        | inr apart ↦ recorded_of-other coming x b apart
      ]

  pub free-filled : (x y : ℕ) → free_in after x y ≡ (if x == set_of d.geometry block && y == way then false else free_in d x y)
  unfolding free_in
  free-filled x y =
      rw (← r.in_set) (ap is_none (r.lines x y) ∙ free_by (x == set && y == way) (Some entry) (entry_at d.table x y))

-- a free way takes a block in the code's tables
pub fills : (m : Directory) (g : Numbers) (bank : ℕ) (t after : WayTable) (s store : Store) (block set way : ℕ) (entry : Entry) (bytes : List ℕ)
    → dir g bank t s ≡ m → IsDirectory (dir g bank t s) → bank_of m.geometry block ≡ m.bank → set ≡ set_of g block
    → entry.tag ≡ tag_of g block → way_of m block ≡ None → way < m.geometry.ways → free_in m (set_of m.geometry block) way ≡ true
    → ((client : ℕ) → entry_perm entry client ≡ NoAccess) → entry.dirty ≡ false → IsSameSize t after → set < g.sets
    → ((x y : ℕ) → entry_at after x y ≡ (if x == set && y == way then Some entry else entry_at t x y))
    → ((x y : ℕ) → y < s.ways → bytes_at store x y ≡ (if x == set && y == way then bytes else bytes_at s x y))
    → Fills m (dir g bank after store) block set way entry bytes
fills m g bank t after s store block set way entry bytes view sound own sets tag away inside free nobody clean size set_in lines written =
    let d = dir g bank t s in
    let own' : bank_of g block ≡ bank = subst (λ (x : Directory). bank_of x.geometry block ≡ x.bank) (sym view) own in
    let inside' : way < t.ways = subst (λ n. way < n) (sym sound.ways) (subst (λ (x : Directory). way < x.geometry.ways) (sym view) inside) in
    let geometry : g ≡ m.geometry = ap (λ (x : Directory). x.geometry) view in
    let free' : entry_at t set way ≡ None =
    free_line m g bank t s set way view (subst (λ k. free_in m k way ≡ true) (ap (λ (n : Numbers). set_of n block) (sym geometry) ∙ sym sets) free) in
    let same_ways : s.ways ≡ t.ways = sound.store_ways ∙ sym sound.ways in
    subst (λ (x : Directory). way_of x block ≡ None → Fills x (dir g bank after store) block set way entry bytes) view
    (λ none. record {
      sound = sound;
      own = own';
      in_set = sets;
      away = none;
      inside = inside';
      free = free';
      tag = tag;
      nobody = nobody;
      clean = clean;
      geometry = refl;
      bank = refl;
      sets = size.sets;
      set_inside = subst (λ n. set < n) (sym sound.sets) set_in;
      ways = size.ways;
      lines = lines;
      others = λ x y below other. written x y (subst (λ n. y < n) (sym same_ways) below) ∙ ap (λ there. if there then bytes else bytes_at s x y) other;
      bytes_here = written set way (subst (λ n. way < n) (sym same_ways) inside')
          ∙ ap (λ there. if there then bytes else bytes_at s set way) (here_true set way);
    }) away

-- no other way has the tag of a block that comes
pub tag_is_new : (m : Directory) (g : Numbers) (bank : ℕ) (t : WayTable) (s : Store) (block set tag other : ℕ) → dir g bank t s ≡ m
    → IsDirectory (dir g bank t s) → bank_of m.geometry block ≡ m.bank → set ≡ set_of g block → tag ≡ tag_of g block → way_of m block ≡ None
    → tag_at t set other ≢ Some tag
tag_is_new m g bank t s block set tag other view sound own sets tags away =
    rw (sets, tags)
    (untagged (dir g bank t s) block other sound
    (subst (λ (x : Directory). bank_of x.geometry block ≡ x.bank) (sym view) own)
    (subst (λ (x : Directory). way_of x block ≡ None) (sym view) away))

-- after a block comes the directory is sound
pub IsDirectory-filled : (g : Numbers) (bank : ℕ) (t after : WayTable) (s store : Store) (block set way : ℕ) (entry : Entry)
    → IsDirectory (dir g bank t s) → block < g.memory_blocks → place_of g block ≡ record { bank = bank; set = set; tag = entry.tag }
    → way < t.ways → ((other : ℕ) → tag_at t set other ≢ Some entry.tag) → IsSameSize t after
    → ((x y : ℕ) → entry_at after x y ≡ (if x == set && y == way then Some entry else entry_at t x y))
    → store.sets ≡ s.sets → store.ways ≡ s.ways → IsOfClients g.clients entry → IsDirectory (dir g bank after store)
IsDirectory-filled g bank t after s store block set way entry sound inside place way_in alone size lines sets ways recorded =
    record {
      sets = size.sets ∙ sound.sets;
      ways = size.ways ∙ sound.ways;
      store_sets = sets ∙ sound.store_sets;
      store_ways = ways ∙ sound.store_ways;
      outside = λ x y past. lines x y ∙ outside x y (subst (λ n. n ≤ y) size.ways past) (x == set && y == way) refl;
      distinct = λ x v w k first second.
          distinct x v w k (x == set && v == way) (x == set && w == way) refl refl (sym (ap tag_in_entry (lines x v)) ∙ first)
          (sym (ap tag_in_entry (lines x w)) ∙ second);
      placed = λ x y line is. placed x y line (x == set && y == way) refl (sym (lines x y) ∙ is);
      clients = λ x y line is. clients x y line (x == set && y == way) refl (sym (lines x y) ∙ is);
    }
  where
    outside : (x y : ℕ) → t.ways ≤ y → (there : Bool) → (x == set && y == way) ≡ there
        → (if x == set && y == way then Some entry else entry_at t x y) ≡ None
    outside x y past false is = rw is (sound.outside x y past)
    outside x y past true is =
        let at : y ≡ way = eqb-true y way (and_parts (x == set) (y == way) is).1 in
        absurd (omega arith)

    after_tag : ℕ → ℕ → Option ℕ
    after_tag x y = tag_in_entry (if x == set && y == way then Some entry else entry_at t x y)

    old_tag : (x y k : ℕ) → (x == set && y == way) ≡ false → tag_in_entry (if x == set && y == way then Some entry else entry_at t x y) ≡ Some k → tag_at t x y ≡ Some k
    old_tag x y k is tagged = rw is at tagged

    new_tag : (x y k : ℕ) → (x == set && y == way) ≡ true → tag_in_entry (if x == set && y == way then Some entry else entry_at t x y) ≡ Some k → (entry.tag ≡ k)
    new_tag x y k is tagged = let one : Some entry.tag ≡ Some k = rw is at tagged in cc

    clash : (x v w k : ℕ) → (x == set && v == way) ≡ true → entry.tag ≡ k → tag_at t x w ≡ Some k → ⊥
    clash x v w k is tag old =
        let sets' : x ≡ set = eqb-true x set (and_parts (x == set) (v == way) is).0 in
        alone w (rw (← sets', tag) old)

    distinct : (x v w k : ℕ) (here there : Bool) → (x == set && v == way) ≡ here → (x == set && w == way) ≡ there
        → tag_in_entry (if x == set && v == way then Some entry else entry_at t x v) ≡ Some k
        → tag_in_entry (if x == set && w == way then Some entry else entry_at t x w) ≡ Some k → v ≡ w
    distinct x v w k false false a b first second = sound.distinct x v w k (old_tag x v k a first) (old_tag x w k b second)
    distinct x v w k true true a b first second =
        eqb-true v way (and_parts (x == set) (v == way) a).1 ∙ sym (eqb-true w way (and_parts (x == set) (w == way) b).1)
    distinct x v w k true false a b first second = absurd (clash x v w k a (new_tag x v k a first) (old_tag x w k b second))
    distinct x v w k false true a b first second = absurd (clash x w v k b (new_tag x w k b second) (old_tag x v k a first))

    placed : (x y : ℕ) (line : Entry) (there : Bool) → (x == set && y == way) ≡ there
        → (if x == set && y == way then Some entry else entry_at t x y) ≡ Some line → IsPlaced g bank x line.tag
    placed x y line false is found = sound.placed x y line (rw is at found)
    placed x y line true is found =
        let new_is : Some entry ≡ Some line = rw is at found in
        let same : entry ≡ line = cc in
        let sets' : x ≡ set = eqb-true x set (and_parts (x == set) (y == way) is).0 in
        let here : place_of g block ≡ record { bank = bank; set = x; tag = line.tag } = rw (sets', ← same) place in
        record { block = block; inside = inside; place = here }

    clients : (x y : ℕ) (line : Entry) (there : Bool) → (x == set && y == way) ≡ there
        → (if x == set && y == way then Some entry else entry_at t x y) ≡ Some line → IsOfClients g.clients line
    clients x y line false is found = sound.clients x y line (rw is at found)
    clients x y line true is found =
        let new_is : Some entry ≡ Some line = rw is at found in
        let same : entry ≡ line = cc in
        subst (λ e. IsOfClients g.clients e) same recorded

-- after a block leaves the directory is sound
pub IsDirectory-cleared : (g : Numbers) (bank : ℕ) (t after : WayTable) (s : Store) (set way : ℕ) → IsDirectory (dir g bank t s)
    → IsSameSize t after → ((x y : ℕ) → entry_at after x y ≡ (if x == set && y == way then None else entry_at t x y))
    → IsDirectory (dir g bank after s)
IsDirectory-cleared g bank t after s set way sound size lines =
    record {
      sets = size.sets ∙ sound.sets;
      ways = size.ways ∙ sound.ways;
      store_sets = sound.store_sets;
      store_ways = sound.store_ways;
      outside = λ x y past. lines x y ∙ outside x y (subst (λ n. n ≤ y) size.ways past) (x == set && y == way) refl;
      distinct = λ x v w k first second. sound.distinct x v w k (tagged x v k first) (tagged x w k second);
      placed = λ x y entry is. sound.placed x y entry (kept x y entry (x == set && y == way) refl (sym (lines x y) ∙ is));
      clients = λ x y entry is. sound.clients x y entry (kept x y entry (x == set && y == way) refl (sym (lines x y) ∙ is));
    }
  where
    outside : (x y : ℕ) → t.ways ≤ y → (there : Bool) → (x == set && y == way) ≡ there
        → (if x == set && y == way then None else entry_at t x y) ≡ None
    outside x y past false is = rw is (sound.outside x y past)
    outside x y past true is = rw is refl

    kept : (x y : ℕ) (entry : Entry) (there : Bool) → (x == set && y == way) ≡ there
        → (if x == set && y == way then None else entry_at t x y) ≡ Some entry → entry_at t x y ≡ Some entry
    kept x y entry false is found = rw is at found
    kept x y entry true is found = let none : None ≡ Some entry = rw is at found in absurd (cc)

    tagged_by : (x y k : ℕ) (there : Bool) → (x == set && y == way) ≡ there
        → tag_in_entry (if x == set && y == way then None else entry_at t x y) ≡ Some k → tag_at t x y ≡ Some k
    tagged_by x y k false is found = rw is at found
    tagged_by x y k true is found = let none : None ≡ Some k = rw is at found in absurd (cc)

    tagged : (x y k : ℕ) → tag_at after x y ≡ Some k → tag_at t x y ≡ Some k
    tagged x y k found = tagged_by x y k (x == set && y == way) refl (sym (ap tag_in_entry (lines x y)) ∙ found)

-- the place of a block of the bank
pub own_place : (m : Directory) (g : Numbers) (bank : ℕ) (t : WayTable) (s : Store) (block set tag : ℕ) → dir g bank t s ≡ m
    → bank_of m.geometry block ≡ m.bank → set ≡ set_of g block → tag ≡ tag_of g block
    → place_of g block ≡ record { bank = bank; set = set; tag = tag }
own_place m g bank t s block set tag view own sets tags =
    let own' : bank_of g block ≡ bank = subst (λ (x : Directory). bank_of x.geometry block ≡ x.bank) (sym view) own in
    rw (own', sets, tags) refl
