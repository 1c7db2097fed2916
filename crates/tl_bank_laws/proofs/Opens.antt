-- A register that opens holds a way of its own.
use Rattle.std.proofs.Common.{◌≡◌, ℕ, ◌<◌, ◌==◌, ◌&&◌, ◌||◌, Bool, true, false, List, [], ◌∷◌, ◌++◌, Option, Some, None, refl, sym, ◌∙◌, ap, subst, inl, inr, eqb-true, eq-eqb}
use Rattle.std.specs.List.{AllByRecursion}
use Rattle.std.proofs.lemmas.Bool.{cases_Bool, or_parts, and_parts, or_right, or_cases}
use Rattle.std.specs.Prelude.{◌⊎◌, IfSome, is_none, is_some}
use Rattle.std.specs.List.{list_any}
use Rattle.tl_map.specs.Numbers.{Numbers}
use Rattle.tl_map.specs.Places.{bank_of, set_of}
use Rattle.tl_protocol.specs.declared.event.Event.{Event}
use Rattle.tl_protocol.specs.declared.home.Accepted.{Accepted}
use Rattle.tl_protocol.specs.declared.home.Line.{Line}
use Rattle.tl_registers.specs.Agree.{IsFreeVictim}
use Rattle.tl_registers.specs.Register.{acquire_task, opened, works_on}
use Rattle.tl_registers.specs.Registers.{held_in, is_busy, is_held}
use Rattle.tl_registers.specs.VictimWay.{IsInOrder}
use Rattle.tl_registers.specs.declared.register.Register.{Register}
use Rattle.tl_registers.specs.declared.register.Task.{Task}
use Rattle.tl_registers.specs.declared.register.Task.TheVariants.{Evict}
use Rattle.tl_registers.specs.declared.way_of_set.WayOfSet.{WayOfSet}
use Rattle.tl_registers.proofs.Tables.{each-end, each-follows}
use Rattle.tl_ways.specs.Orders.{chosen}
use Rattle.tl_bank_spec.specs.HomeCases.{lacks}
use Rattle.tl_bank_spec.specs.View.{View, end_at, shape_of}
use Rattle.tl_bank_spec.specs.Own.{IsOwn, way_at}
use Rattle.tl_bank_spec.specs.Ways.{IsWayFor, holds_way, slot_at, slots_at, victim_of_way, way_in_set, ways_held}
use Rattle.tl_bank_home.specs.Homes.{HomeState, bank_in, free_at, geometry_in, order_at, way_in}
use Rattle.tl_bank_home.proofs.DirectoryLaws.{IsThere-of}
use Rattle.tl_bank_laws.specs.Means.{HoldsWay, Means, WaysApart, WaysFit, is_filling}
use Rattle.tl_bank_laws.specs.Layers.{Layers}
use Rattle.tl_bank_laws.proofs.Chosen.{Picks, chosen-picks, none-held, picks-chosen, picks-held}
use Rattle.tl_bank_laws.proofs.Slots.{lies-slot, lies-true, slot-lies, true-lies, none-is}

-- ## The way is free to be held

-- a block of the bank and of the set lies in the way
abbrev pub Lies : View → ℕ → ℕ → ℕ → Type 0
Lies v set way block =
    (bank_of v.geometry block ≡ v.number) × (set_of v.geometry block ≡ set) × (way_at v block ≡ Some way)

-- the block in a way lies there
slot-block : (v : View) (set way block : ℕ) → slot_at v set way ≡ Some block → (block < v.geometry.memory_blocks) × Lies v set way block
slot-block v set way block h = let there = slot-lies v set way block h in (there.0.0, (there.0.1, there.1, there.2))

-- a register holds a way where a block lies only if it works on that block
held-works : (v : View) (set way block : ℕ) (xs : List Register) → AllByRecursion (HoldsWay v) xs → block < v.geometry.memory_blocks
    → Lies v set way block → is_busy block xs ≡ false → is_held (way_in_set set way) xs ≡ false
held-works v set way block [] held l lies free = refl
held-works v set way block (r ∷ rest) held l lies free =
    let parts = or_parts (works_on r block) (is_busy block rest) free in
    let more = held-works v set way block rest held.1 l lies parts.1 in
    elim (cases_Bool ((r.way.set == set) && (r.way.way == way))) [
      | inl e ↦
          let both = and_parts (r.way.set == set) (r.way.way == way) e in
          let in_set : set ≡ r.way.set = sym (eqb-true r.way.set set both.0) in
          let in_way : way ≡ r.way.way = sym (eqb-true r.way.way way both.1) in
          let there : Lies v r.way.set r.way.way block =
          (lies.0, lies.1 ∙ in_set, lies.2 ∙ ap Some in_way) in
          let on : works_on r block ≡ true = held.0.alone block l (true-lies v r.way.set r.way.way block there.0 there.1 there.2) in
          let off : works_on r block ≡ false = parts.0 in
          let bad : true ≡ false = sym on ∙ off in
          cc
      | inr e ↦ rw e more
    ]

-- a register works on a block that lies in a way only if it holds the way
works-held : (v : View) (set way block : ℕ) (xs : List Register) → AllByRecursion (HoldsWay v) xs → Lies v set way block
    → is_held (way_in_set set way) xs ≡ false → is_busy block xs ≡ false
works-held v set way block [] held lies free = refl
works-held v set way block (r ∷ rest) held lies free =
    let parts = or_parts ((r.way.set == set) && (r.way.way == way)) (is_held (way_in_set set way) rest) free in
    let more = works-held v set way block rest held.1 lies parts.1 in
    elim (cases_Bool (works_on r block)) [
      | inl on ↦
          let in_set : r.way.set ≡ set = sym (held.0.own block on).1 ∙ lies.1 in
          let in_way : r.way.way ≡ way = sym (held.0.lies block way on lies.2) in
          let first = eq-eqb r.way.set set in_set in
          let second = eq-eqb r.way.way way in_way in
          let bad : true ≡ false = rw (first, second) at parts.0 in
          cc
      | inr off ↦ rw off more
    ]

-- A way that a register of a block may take, once its victim has left it.
pub record MayHold (v : View) (block way : ℕ) (victim : Option ℕ) : Type 0 where
  pub own : IsOwn v.geometry v.number block
  pub inside : way < v.geometry.ways
  pub not_held : holds_way v (set_of v.geometry block) way ≡ false
  pub lies : (w : ℕ) → way_at v block ≡ Some w → w ≡ way
  pub there : (b : ℕ) → victim ≡ Some b → (b < v.geometry.memory_blocks) × Lies v (set_of v.geometry block) way b
  pub other : (b : ℕ) → victim ≡ Some b → way_at v block ≡ None
  pub alone : (b : ℕ) → b < v.geometry.memory_blocks → Lies v (set_of v.geometry block) way b → (block ≡ b) ⊎ (victim ≡ Some b)

-- the way that the rules say is one
pub may-hold : (v : View) (home : HomeState) (block way : ℕ) (lies : Option ℕ) → WaysFit v home → IsOwn v.geometry v.number block
    → is_busy block v.registers ≡ false → way_at v block ≡ lies → IsWayFor v (set_of v.geometry block) lies way
    → MayHold v block way (victim_of_way v (set_of v.geometry block) lies way)
may-hold v home block way (Some at) fit own free is way_is =
    let set : ℕ = set_of v.geometry block in
    let here : way_at v block ≡ Some way = is ∙ ap Some (sym way_is) in
    let there : Lies v set way block = (own.1, refl, here) in
    record {
      own = own;
      inside = fit.inside block way own here;
      not_held = held-works v set way block v.registers fit.held own.0 there free;
      lies = λ w e. let both : Some w ≡ Some way = sym e ∙ here in cc;
      there = λ b e. cc;
      other = λ b e. cc;
      alone = λ b l lies. inl (fit.once block b way own (l, lies.0) (sym lies.1) here lies.2);
    }
may-hold v home block way None fit own free is way_is =
    let set : ℕ = set_of v.geometry block in
    let picks : Picks v set way = picks-chosen v set way way_is in
    record {
      own = own;
      inside = picks.inside;
      not_held = picks.not_held;
      lies = λ w e. let both : None ≡ Some w = sym is ∙ e in cc;
      there = λ b e. slot-block v set way b e;
      other = λ b e. is;
      alone = λ b l lies. inr (lies-slot v set way b (l, lies.0) lies.1 lies.2
          (λ a own_a in_a at_a. fit.once a b way own_a (l, lies.0) (in_a ∙ sym lies.1) at_a lies.2));
    }

-- home lacks a block of which the test finds no copy
home-none : (home : Option Line) → is_none home ≡ true → home ≡ None
home-none None h = refl
home-none (Some line) h = cc

-- the victim, where there is one, is a block that no register works on
pub free-victim : (v : View) (home : HomeState) (block way : ℕ) (victim : Option ℕ) → WaysFit v home → MayHold v block way victim
    → IsFreeVictim (shape_of v.geometry) (end_at v) v.registers block victim
free-victim v home block way None fit may = tt
free-victim v home block way (Some victim) fit may =
    let there = may.there victim refl in
    let none = may.other victim refl in (
      there.0,
      λ e. let both : Some way ≡ None = sym there.1.2 ∙ (ap (way_at v) e ∙ none) in cc,
      works-held v (set_of v.geometry block) way victim v.registers fit.held there.1 may.not_held,
      home-none (end_at v block).home (fit.holds block may.own ∙ ap is_none none),
      λ e. let bad : true ≡ false = sym (ap is_none e) ∙ (fit.holds victim (there.0, there.1.0) ∙ ap is_none there.1.2) in cc,
    )

-- ## The register that opens

-- a register works on its own block and its victim
pub record WorksOn (r : Register) (victim : Option ℕ) : Type 0 where
  pub only : (b : ℕ) → works_on r b ≡ true → (r.own ≡ b) ⊎ (victim ≡ Some b)
  pub on : (b : ℕ) → (r.own ≡ b) ⊎ (victim ≡ Some b) → works_on r b ≡ true

-- a register works on its own block
own-on : (own b : ℕ) (t : Bool) → own ≡ b → ((own == b) || t) ≡ true
own-on own b t e = rw (eq-eqb own b e) refl

-- one that serves an Acquire
pub acquire-works-on : (block : ℕ) (way : WayOfSet) (acquire : Accepted) (victim : Option ℕ)
    → WorksOn (opened block way (acquire_task acquire victim)) victim
acquire-works-on block way acquire None = record {
  only = λ b h. elim (or_cases (block == b) false h) [ inl e ↦ inl (eqb-true block b e) | inr e ↦ cc ];
  on = λ b. elim [ inl e ↦ own-on block b false e | inr e ↦ cc ];
}
acquire-works-on block way acquire (Some victim) = record {
  only = λ b h. elim (or_cases (block == b) (victim == b) h) [
    | inl e ↦ inl (eqb-true block b e)
    | inr e ↦ inr (ap Some (eqb-true victim b e))
  ];
  on = λ b. elim [
    | inl e ↦ own-on block b (victim == b) e
    | inr e ↦ let same : victim ≡ b = cc in or_right (block == b) (victim == b) (eq-eqb victim b same)
  ];
}

-- one that sends its block away
pub evict-works-on : (block : ℕ) (way : WayOfSet) → WorksOn (opened block way Evict) None
evict-works-on block way = record {
  only = λ b h. elim (or_cases (block == b) (block == b) h) [ inl e ↦ inl (eqb-true block b e) | inr e ↦ inl (eqb-true block b e) ];
  on = λ b. elim [ inl e ↦ own-on block b (block == b) e | inr e ↦ cc ];
}

-- such a register holds its way
pub new-holds : (v : View) (block way : ℕ) (task : Task) (victim : Option ℕ) → MayHold v block way victim
    → WorksOn (opened block (way_in_set (set_of v.geometry block) way) task) victim
    → HoldsWay v (opened block (way_in_set (set_of v.geometry block) way) task)
new-holds v block way task victim may works = record {
  inside = may.inside;
  own = λ b on. elim (works.only b on) [
    | inl e ↦ let P : ℕ → Type 0 = λ x. IsOwn v.geometry v.number x × (set_of v.geometry x ≡ set_of v.geometry block) in subst P e (may.own, refl)
    | inr e ↦ let there = may.there b e in ((there.0, there.1.0), there.1.1)
  ];
  lies = λ b w on at. elim (works.only b on) [
    | inl e ↦ may.lies w (ap (way_at v) e ∙ at)
    | inr e ↦ let there = may.there b e in let both : Some w ≡ Some way = sym at ∙ there.1.2 in cc
  ];
  alone = λ b l lies. works.on b (may.alone b l (lies-true v (set_of v.geometry block) way b lies));
}

-- ## The other registers

-- two ways that differ, differ in either order
differs-back : (s t : WayOfSet) → ((s.set == t.set) && (s.way == t.way)) ≡ false → ((t.set == s.set) && (t.way == s.way)) ≡ false
differs-back s t h =
    elim (cases_Bool ((t.set == s.set) && (t.way == s.way))) [
      | inl e ↦
          let both = and_parts (t.set == s.set) (t.way == s.way) e in
          let first = eq-eqb s.set t.set (sym (eqb-true t.set s.set both.0)) in
          let second = eq-eqb s.way t.way (sym (eqb-true t.way s.way both.1)) in
          let bad : true ≡ false = rw (first, second) at h in
          cc
      | inr e ↦ e
    ]

-- a way that none holds is not held with one more register that holds another
held-end : (way : WayOfSet) (xs : List Register) (r : Register) → is_held way xs ≡ false
    → ((r.way.set == way.set) && (r.way.way == way.way)) ≡ false → is_held way (xs ++ r ∷ []) ≡ false
held-end way [] r h one = rw one refl
held-end way (x ∷ rest) r h one =
    let parts = or_parts ((x.way.set == way.set) && (x.way.way == way.way)) (is_held way rest) h in
    rw parts.0 (held-end way rest r parts.1 one)

-- registers whose ways are apart stay so with one more whose way is not held
pub ways-apart-end : (xs : List Register) (r : Register) → WaysApart xs → is_held r.way xs ≡ false → WaysApart (xs ++ r ∷ [])
ways-apart-end [] r apart free = (refl, tt)
ways-apart-end (x ∷ rest) r apart free =
    let parts = or_parts ((x.way.set == r.way.set) && (x.way.way == r.way.way)) (is_held r.way rest) free in
    (held-end x.way rest r apart.0 (differs-back x.way r.way parts.0), ways-apart-end rest r apart.1 parts.1)

-- what a register holds does not rest on the log, the room or the registers
pub holds-still : (v : View) (log : List Event) (room : ℕ) (registers : List Register) (r : Register) → HoldsWay v r
    → HoldsWay (record v { log = log; room = room; registers = registers }) r
holds-still v log room registers r h = record { inside = h.inside; own = h.own; lies = h.lies; alone = h.alone }

-- one more register that holds a way
pub each-holds : (v : View) (log : List Event) (room : ℕ) (r : Register) → AllByRecursion (HoldsWay v) v.registers → HoldsWay v r
    → AllByRecursion (HoldsWay (record v { log = log; room = room; registers = v.registers ++ r ∷ [] })) (v.registers ++ r ∷ [])
each-holds v log room r held new =
    let later : View = record v { log = log; room = room; registers = v.registers ++ r ∷ [] } in
    each-follows (HoldsWay v) (HoldsWay later) (v.registers ++ r ∷ []) (λ q h. holds-still v log room (v.registers ++ r ∷ []) q h)
    (each-end (HoldsWay v) v.registers r held new)

-- a test that an element passes, one that follows from it passes of a longer list
pub any-follows : (p q : Register → Bool) (xs : List Register) (r : Register) → ((x : Register) → p x ≡ true → q x ≡ true)
    → list_any p xs ≡ true → list_any q (xs ++ r ∷ []) ≡ true
any-follows p q [] r f h = cc
any-follows p q (x ∷ rest) r f h =
    elim (or_cases (p x) (list_any p rest) h) [
      | inl e ↦ rw (f x e) refl
      | inr e ↦ or_right (q x) (list_any q (rest ++ r ∷ [])) (any-follows p q rest r f e)
    ]

-- the view once a register is open
abbrev pub opened_view : View → List Event → ℕ → Register → View
opened_view v log room r = record v { log = log; room = room; registers = v.registers ++ r ∷ [] }

-- the ways fit the new view, where home holds the same blocks and the orders are those of the new log
pub ways-open : (v : View) (home : HomeState) (log : List Event) (room : ℕ) (r : Register) → WaysFit v home → HoldsWay v r
    → is_held r.way v.registers ≡ false
    → ((b : ℕ) → is_none (end_at (opened_view v log room r) b).home ≡ is_none (end_at v b).home)
    → ((set : ℕ) → set < v.geometry.sets → IsInOrder (slots_at v set) (is_filling (opened_view v log room r) set) log (order_at home set))
    → WaysFit (opened_view v log room r) home
ways-open v home log room r fit new free holds orders = record {
  shown = fit.shown;
  inside = fit.inside;
  once = fit.once;
  holds = λ b own. holds b ∙ fit.holds b own;
  free = fit.free;
  held = each-holds v log room r fit.held new;
  apart = ways-apart-end v.registers r fit.apart free;
  orders = orders;
}

-- ## What home finds in a way

-- a block that lies somewhere at home is one of home's bank
lies-here : (home : HomeState) (block way : ℕ) → way_in home block ≡ Some way → bank_of (geometry_in home) block ≡ bank_in home
unfolding way_in geometry_in bank_in
lies-here home block way e = (IsThere-of home.directory block way e).own

-- what home finds in a way of a set is the block that is in it, or none
pub slot-found : (v : View) (h : Layers) (set way : ℕ) (found : Option ℕ) → Means v h → set < v.geometry.sets → way < v.geometry.ways
    → IfSome found (λ b. b < (geometry_in h.home).memory_blocks) → IfSome found (λ b. set_of (geometry_in h.home) b ≡ set)
    → IfSome found (λ b. way_in h.home b ≡ Some way) → is_none found ≡ free_at h.home set way → found ≡ slot_at v set way
slot-found v h set way None m l k inside in_set lies free =
    sym (none-is (slot_at v set way) (sym (m.ways.free set way l k) ∙ sym free))
slot-found v h set way (Some b) m l k inside in_set lies free =
    let g = m.home_geometry in
    let here : bank_of (geometry_in h.home) b ≡ bank_in h.home = lies-here h.home b way lies in
    let own : IsOwn v.geometry v.number b =
    (subst (λ (n : Numbers). b < n.memory_blocks) g inside, subst (λ (n : Numbers). bank_of n b ≡ v.number) g (here ∙ m.home_bank)) in
    let there : set_of v.geometry b ≡ set = subst (λ (n : Numbers). set_of n b ≡ set) g in_set in
    let at : way_at v b ≡ Some way = m.ways.shown b own.0 ∙ lies in
    sym (lies-slot v set way b own there at (λ a own_a in_a at_a. m.ways.once a b way own_a own (in_a ∙ sym there) at_a at))

-- of a block that home lacks, the block that home finds in its way is the victim
pub victim-found : (v : View) (h : Layers) (block way : ℕ) (found : Option ℕ) → Means v h → block < v.geometry.memory_blocks
    → set_of v.geometry block < v.geometry.sets → way < v.geometry.ways → way_in h.home block ≡ None
    → IfSome found (λ b. b < (geometry_in h.home).memory_blocks)
    → IfSome found (λ b. set_of (geometry_in h.home) b ≡ set_of v.geometry block)
    → IfSome found (λ b. way_in h.home b ≡ Some way) → is_none found ≡ free_at h.home (set_of v.geometry block) way
    → found ≡ victim_of_way v (set_of v.geometry block) (way_at v block) way
victim-found v h block way found m known l k away inside in_set lies free =
    let none : way_at v block ≡ None = m.ways.shown block known ∙ away in
    subst (λ (o : Option ℕ). found ≡ victim_of_way v (set_of v.geometry block) o way) (sym none)
    (slot-found v h (set_of v.geometry block) way found m l k inside in_set lies free)

-- ## The way that home offers

-- where home lacks the block, the way that it chooses is the one that the rules say
pub offers-chosen : (v : View) (h : Layers) (block way : ℕ) → Means v h → IsOwn v.geometry v.number block
    → set_of v.geometry block < v.geometry.sets → way_in h.home block ≡ None
    → chosen (λ w. free_at h.home (set_of v.geometry block) w) v.geometry.ways (order_at h.home (set_of v.geometry block))
    (held_in (set_of v.geometry block) v.registers) ≡ Some way
    → IsWayFor v (set_of v.geometry block) (way_at v block) way × (way < v.geometry.ways)
    × ((lacks v block && ways_held v (set_of v.geometry block)) ≡ false)
offers-chosen v h block way m own l away is =
    let set : ℕ = set_of v.geometry block in
    let none : way_at v block ≡ None = m.ways.shown block own.0 ∙ away in
    let picks : Picks v set way = chosen-picks v h.home set way m.ways l is in (
      subst (λ (o : Option ℕ). IsWayFor v set o way) (sym none) picks.is,
      picks.inside,
      rw (picks-held v set way picks) (and-off (lacks v block)),
    )
  where
    and-off : (t : Bool) → (t && false) ≡ false
    and-off true = refl
    and-off false = refl

-- where it chooses none, home lacks the block and every way is held
pub offers-none : (v : View) (h : Layers) (block : ℕ) → Means v h → IsOwn v.geometry v.number block
    → set_of v.geometry block < v.geometry.sets → way_in h.home block ≡ None
    → chosen (λ w. free_at h.home (set_of v.geometry block) w) v.geometry.ways (order_at h.home (set_of v.geometry block))
    (held_in (set_of v.geometry block) v.registers) ≡ None
    → (lacks v block && ways_held v (set_of v.geometry block)) ≡ true
offers-none v h block m own l away is =
    let none : way_at v block ≡ None = m.ways.shown block own.0 ∙ away in
    let away_is : lacks v block ≡ true = m.ways.holds block own ∙ ap is_none none in
    let held : ways_held v (set_of v.geometry block) ≡ true = none-held v h.home (set_of v.geometry block) m.ways l is in
    rw (away_is, held) refl

-- a way that is not there
pub not-some : (way : Option ℕ) → is_some way ≡ false → way ≡ None
not-some None h = refl
not-some (Some way) h = cc

-- what home offers for a block that it lacks is a way that the rules say, or else every way is held
pub record Offered (v : View) (block : ℕ) (found : Option ℕ) : Type 0 where
  pub is : IfSome found (λ way. IsWayFor v (set_of v.geometry block) (way_at v block) way)
  pub none : is_none found ≡ (lacks v block && ways_held v (set_of v.geometry block))

-- so it is with what home chooses for such a block
pub offered : (v : View) (h : Layers) (block : ℕ) (found : Option ℕ) → Means v h → IsOwn v.geometry v.number block
    → set_of v.geometry block < v.geometry.sets → way_in h.home block ≡ None
    → found ≡ chosen (λ w. free_at h.home (set_of v.geometry block) w) v.geometry.ways (order_at h.home (set_of v.geometry block))
    (held_in (set_of v.geometry block) v.registers)
    → Offered v block found
offered v h block None m own l away is =
    record { is = tt; none = sym (offers-none v h block m own l away (sym is)) }
offered v h block (Some way) m own l away is =
    let chosen_is = offers-chosen v h block way m own l away (sym is) in
    record { is = chosen_is.0; none = sym chosen_is.2 }
