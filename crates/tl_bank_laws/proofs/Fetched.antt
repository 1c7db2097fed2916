-- The register of a block whose bytes come from the memory: it serves the block's Acquire, and its way is free.
use Rattle.std.proofs.Common.{◌≡◌, ℕ, ◌<◌, ◌==◌, ◌&&◌, ◌||◌, Bool, true, false, List, [], ◌∷◌, Option, Some, None, refl, sym, ◌∙◌, ap, subst, inl, inr, eqb-true, eq-eqb}
use Rattle.std.specs.List.{AllByRecursion}
use Rattle.tl_types.proofs.Booleans.{or-else}
use Rattle.std.proofs.Math.Bool.{or-true}
use Rattle.std.proofs.lemmas.Bool.{cases_Bool, or_parts}
use Rattle.std.specs.Prelude.{◌⊎◌, IsSome}
use Rattle.std.specs.List.{list_any}
use Rattle.tl_bank_laws.proofs.Dues.{found-own, found-each}
use Rattle.tl_map.specs.Places.{set_of}
use Rattle.tl_protocol.specs.Home.{IsData}
use Rattle.tl_protocol.specs.Protocol.{Block}
use Rattle.tl_protocol.specs.declared.home.Accepted.{Accepted}
use Rattle.tl_protocol.specs.declared.home.Outward.{Outward}
use Rattle.tl_protocol.specs.declared.home.Outward.TheVariants.{Quiet, Data}
use Rattle.tl_protocol.specs.declared.shape.Shape.{Shape}
use Rattle.tl_registers.specs.declared.register.Register.{Register}
use Rattle.tl_registers.specs.declared.register.Task.{Task}
use Rattle.tl_registers.specs.declared.register.Task.TheVariants.{Acquire, Replace, Evict}
use Rattle.tl_registers.specs.declared.way_of_set.WayOfSet.{WayOfSet}
use Rattle.tl_registers.specs.Agree.{Agree}
use Rattle.tl_registers.specs.Fit.{Fits, IsPutting, TaskFits}
use Rattle.tl_registers.specs.Pending.{grant_pending}
use Rattle.tl_registers.specs.Register.{is_block, victim_in, victim_of, works_on}
use Rattle.tl_registers.specs.Registers.{is_busy, is_held, register_of}
use Rattle.tl_bank_spec.specs.HomeCalls.{take_memory_cases}
use Rattle.tl_bank_spec.specs.Refusal.{first_of}
use Rattle.tl_bank_spec.specs.View.{View, end_at, shape_of}
use Rattle.tl_bank_spec.specs.Own.{IsOwn, way_at}
use Rattle.tl_bank_spec.specs.Ways.{slot_at}
use Rattle.tl_bank_laws.specs.Layers.{Layers}
use Rattle.tl_bank_laws.specs.Means.{HoldsWay, Means, WaysApart}
use Rattle.tl_bank_laws.specs.Memory.{RegisterHolds}
use Rattle.tl_bank_laws.proofs.Slots.{slot-lies, true-lies}
use Rattle.tl_bank_laws.proofs.TakesPutAck.{passing-lacks, passing-nowhere, take-own}

-- ## The register of a block

-- a test that it passes is passed by one of all
pub any-found : (P : Register → Bool) (block : ℕ) (xs : List Register) (r : Register) → register_of block xs ≡ Some r → P r ≡ true
    → list_any P xs ≡ true
any-found P block [] r h passes = cc
any-found P block (q ∷ rest) r h passes =
    elim (cases_Bool (q.own == block)) [
      | inl e ↦
          let g : Some q ≡ Some r = (rw e at h) in
          let same : q ≡ r = cc in
          let here : P q ≡ true = ap P same ∙ passes in
          rw here refl
      | inr e ↦
          let g : register_of block rest ≡ Some r = (rw e at h) in
          rw (any-found P block rest r g passes) (or-true (P q))
    ]

-- ## One way among the others

-- a register holds another way
abbrev pub HoldsOther : Register → Register → Type 0
HoldsOther r q = q.way.set ≡ r.way.set → q.way.way ≡ r.way.way → ⊥

-- a register that is found not to hold a way holds another
not-held : (way : WayOfSet) (q : Register) → ((q.way.set == way.set) && (q.way.way == way.way)) ≡ false → q.way.set ≡ way.set
    → q.way.way ≡ way.way → ⊥
not-held way q fails s w =
    let set_is = eq-eqb q.way.set way.set s in
    let way_is = eq-eqb q.way.way way.way w in
    let holds : ((q.way.set == way.set) && (q.way.way == way.way)) ≡ true = rw (set_is, way_is) refl in
    let bad : true ≡ false = sym holds ∙ fails in
    cc

-- where none of a list holds a register's way, each is this one or holds another way
others-hold : (r : Register) (xs : List Register) → is_held r.way xs ≡ false → AllByRecursion (λ q. (q ≡ r) ⊎ HoldsOther r q) xs
others-hold r [] free = tt
others-hold r (q ∷ rest) free =
    let both = or_parts ((q.way.set == r.way.set) && (q.way.way == r.way.way)) (is_held r.way rest) free in
    (inr (not-held r.way q both.0), others-hold r rest both.1)

-- a way that none of a list holds is not the one of the register that is found in it
found-held : (block : ℕ) (way : WayOfSet) (xs : List Register) (r : Register) → register_of block xs ≡ Some r → is_held way xs ≡ false
    → way.set ≡ r.way.set → way.way ≡ r.way.way → ⊥
found-held block way [] r h free s w = cc
found-held block way (q ∷ rest) r h free s w =
    let both = or_parts ((q.way.set == way.set) && (q.way.way == way.way)) (is_held way rest) free in
    elim (cases_Bool (q.own == block)) [
      | inl e ↦
          let g : Some q ≡ Some r = (rw e at h) in
          let same : q ≡ r = cc in
          not-held way q both.0 (ap (λ (x : Register). x.way.set) same ∙ sym s) (ap (λ (x : Register). x.way.way) same ∙ sym w)
      | inr e ↦ let g : register_of block rest ≡ Some r = (rw e at h) in found-held block way rest r g both.1 s w
    ]

-- where no two hold one way, each register is this one or holds another way
pub one-way : (block : ℕ) (xs : List Register) (r : Register) → WaysApart xs → register_of block xs ≡ Some r
    → AllByRecursion (λ q. (q ≡ r) ⊎ HoldsOther r q) xs
one-way block [] r apart h = tt
one-way block (q ∷ rest) r apart h =
    elim (cases_Bool (q.own == block)) [
      | inl e ↦
          let g : Some q ≡ Some r = (rw e at h) in
          let same : q ≡ r = cc in
          (inl same, others-hold r rest (ap (λ (x : Register). is_held x.way rest) (sym same) ∙ apart.0))
      | inr e ↦
          let g : register_of block rest ≡ Some r = (rw e at h) in
          (inr (λ s w. found-held block q.way rest r g apart.0 s w), one-way block rest r apart.1 g)
    ]

-- ## The register that asked for the bytes

-- A register that serves an Acquire of the block.
pub record IsFetching (registers : List Register) (block : ℕ) : Type 0 where
  pub register : Register
  pub acquire : Accepted
  pub found : register_of block registers ≡ Some register
  pub task : register.task ≡ Acquire acquire

-- of a block whose bytes come something passes
data-quiet : (out : Outward) (bytes : List ℕ) → out ≡ Data bytes → out ≡ Quiet → ⊥
data-quiet out bytes is quiet = let bad : Data bytes ≡ Quiet = sym is ∙ quiet in cc

-- and it is neither a Put nor the acknowledgement of one
data-putting : (out : Outward) (bytes : List ℕ) → out ≡ Data bytes → IsPutting out → ⊥
data-putting out bytes is putting = subst IsPutting is putting

-- a register whose own block's bytes come serves an Acquire, and has no victim
own-task : (shape : Shape) (states : ℕ → Block) (r : Register) (task : Task) (bytes : List ℕ) → TaskFits shape states r task
    → (states r.own).outward ≡ Data bytes → (acquire : Accepted) × (task ≡ Acquire acquire)
own-task shape states r (Acquire acquire) bytes fits out = (acquire, refl)
own-task shape states r (Replace acquire victim) bytes fits out = absurd (data-quiet (states r.own).outward bytes out fits.1.quiet)
own-task shape states r Evict bytes fits out = absurd (data-putting (states r.own).outward bytes out fits.putting)

-- bytes that come are not a victim's
victim-none : (shape : Shape) (states : ℕ → Block) (r : Register) (task : Task) (block : ℕ) (bytes : List ℕ)
    → TaskFits shape states r task → (r.own == block) ≡ false → is_block block (victim_in r.own task) ≡ true
    → (states block).outward ≡ Data bytes → ⊥
victim-none shape states r (Acquire acquire) block bytes fits other is out = cc
victim-none shape states r (Replace acquire victim) block bytes fits other is out =
    let here : (states victim).outward ≡ Data bytes = ap (λ b. (states b).outward) (eqb-true victim block is) ∙ out in
    data-putting (states victim).outward bytes here fits.2.putting
victim-none shape states r Evict block bytes fits other is out = let bad : true ≡ false = sym is ∙ other in cc

-- a register that stands first is the one found of its own block
found-first : (block : ℕ) (q : Register) (rest : List Register) → (q.own == block) ≡ true → register_of block (q ∷ rest) ≡ Some q
found-first block q rest e = rw e refl

-- behind the register of another block the one found is that of the rest
found-later : (block : ℕ) (q r : Register) (rest : List Register) → (q.own == block) ≡ false → register_of block rest ≡ Some r
    → register_of block (q ∷ rest) ≡ Some r
found-later block q r rest e found = rw e found

-- where the registers fit, and one works on a block whose bytes come, the block's own serves an Acquire, without a victim
fetching-in : (shape : Shape) (states : ℕ → Block) (xs : List Register) (block : ℕ) (bytes : List ℕ) → AllByRecursion (Fits shape states) xs
    → is_busy block xs ≡ true → (states block).outward ≡ Data bytes → IsFetching xs block
fetching-in shape states [] block bytes fits busy out = cc
fetching-in shape states (q ∷ rest) block bytes fits busy out =
    elim (cases_Bool (q.own == block)) [
      | inl e ↦
          let here : (states q.own).outward ≡ Data bytes = ap (λ b. (states b).outward) (eqb-true q.own block e) ∙ out in
          let is = own-task shape states q q.task bytes fits.0.task here in
          record { register = q; acquire = is.0; found = found-first block q rest e; task = is.1 }
      | inr e ↦
          elim (cases_Bool (is_block block (victim_of q))) [
            | inl t ↦ absurd (victim-none shape states q q.task block bytes fits.0.task e t out)
            | inr t ↦
                let no : works_on q block ≡ false = rw (e, t) refl in
                let more = fetching-in shape states rest block bytes fits.1 (or-else (works_on q block) (is_busy block rest) busy no) out in
                record { register = more.register; acquire = more.acquire; found = found-later block q more.register rest e more.found; task = more.task }
          ]
    ]

-- bytes that come were asked for by the register of their block
pub fetching : (shape : Shape) (states : ℕ → Block) (registers : List Register) (block : ℕ) → Agree shape states registers
    → IsData (states block).outward → IsFetching registers block
fetching shape states registers block agree came =
    elim (cases_Bool (is_busy block registers)) [
      | inl busy ↦ fetching-in shape states registers block came.0 agree.fits busy came.1
      | inr free ↦ absurd (data-quiet (states block).outward came.0 came.1 (agree.at_rest block free).quiet)
    ]

-- ## Its way

-- a register that serves an Acquire, and has no victim, works on its own block alone
acquire-own : (own b : ℕ) (task : Task) (acquire : Accepted) → task ≡ Acquire acquire → ((own == b) || is_block b (victim_in own task)) ≡ true
    → own ≡ b
acquire-own own b task acquire is on =
    let here : ((own == b) || false) ≡ true = (rw is at on) in
    elim (cases_Bool (own == b)) [
      | inl e ↦ eqb-true own b e
      | inr e ↦ let bad = or-else (own == b) false here e in cc
    ]

-- a register works on its own block
pub works-own : (r : Register) (block : ℕ) → r.own ≡ block → works_on r block ≡ true
works-own r block own = let is : (r.own == block) ≡ true = eq-eqb r.own block own in rw is refl

-- The bytes of a block of the bank come, which lies nowhere; a register serves its Acquire, and holds a way that is free.
pub record DataComes (v : View) (block way : ℕ) : Type 0 where
  pub own : IsOwn v.geometry v.number block
  pub came : IsData (end_at v block).outward
  pub register : Register
  pub found : register_of block v.registers ≡ Some register
  pub own_is : register.own ≡ block
  pub way_is : register.way.way ≡ way
  pub set_is : set_of v.geometry block ≡ register.way.set
  pub inside : way < v.geometry.ways
  pub lacks : (end_at v block).home ≡ None
  pub nowhere : way_at v block ≡ None
  pub free : slot_at v (set_of v.geometry block) way ≡ None
  pub ungranted : grant_pending (shape_of v.geometry) (end_at v block) ≡ false

-- the way that is said to be held by the register that was found is that register's
held-way : (r : Register) (v : View) (block way : ℕ) → register_of block v.registers ≡ Some r → RegisterHolds v block way → r.way.way ≡ way
held-way r v block way found held =
    let same : Some held.0 ≡ Some r = sym held.1 ∙ found in
    let is : held.0 ≡ r = cc in ap (λ (x : Register). x.way.way) (sym is) ∙ held.2

-- no block lies in the way of a register that serves an Acquire without a victim, where its own block lies nowhere
free-way : (v : View) (r : Register) (acquire : Accepted) (block : ℕ) (o : Option ℕ) → HoldsWay v r → r.task ≡ Acquire acquire
    → r.own ≡ block → set_of v.geometry block ≡ r.way.set → way_at v block ≡ None
    → slot_at v (set_of v.geometry block) r.way.way ≡ o → o ≡ None
free-way v r acquire block None holds task own set_is nowhere is = refl
free-way v r acquire block (Some b) holds task own set_is nowhere is =
    let slot = slot-lies v (set_of v.geometry block) r.way.way b is in
    let lies = true-lies v r.way.set r.way.way b slot.0.1 (slot.1 ∙ set_is) slot.2 in
    let works = holds.alone b slot.0.0 lies in
    let same : block ≡ b = sym own ∙ acquire-own r.own b r.task acquire task works in
    let bad : None ≡ Some r.way.way = sym nowhere ∙ (ap (way_at v) same ∙ slot.2) in
    cc

-- where home lacks the block of a register's Acquire, no Grant of it is pending
ungranted-of : (shape : Shape) (states : ℕ → Block) (r : Register) (task : Task) (acquire : Accepted) → TaskFits shape states r task
    → task ≡ Acquire acquire → (states r.own).home ≡ None → grant_pending shape (states r.own) ≡ false
ungranted-of shape states r task acquire fits is lacks =
    let served = subst (λ (t : Task). TaskFits shape states r t) is fits in
    elim (cases_Bool (grant_pending shape (states r.own))) [
      | inr e ↦ e
      | inl e ↦
          let line = served.held e in
          let bad : None ≡ Some line.0 = sym lacks ∙ line.1 in
          cc
    ]

-- a block whose bytes come has a register
pub data-register : (v : View) (h : Layers) (block : ℕ) → Means v h → IsData (end_at v block).outward → IsSome (register_of block v.registers)
data-register v h block m came =
    let f = fetching (shape_of v.geometry) (end_at v) v.registers block m.registers.agree came in
    rw f.found refl

-- so it is where bytes came, the block's register holds the way, and no refusal's case holds
pub data-comes : (v : View) (h : Layers) (block way : ℕ) → Means v h → first_of (take_memory_cases v block) ≡ None
    → IsData (end_at v block).outward → RegisterHolds v block way → DataComes v block way
data-comes v h block way m none came held =
    let shape : Shape = shape_of v.geometry in
    let own = take-own v block none in
    let f = fetching shape (end_at v) v.registers block m.registers.agree came in
    let r : Register = f.register in
    let own_is : r.own ≡ block = found-own block v.registers r f.found in
    let holds : HoldsWay v r = found-each (HoldsWay v) block v.registers r m.ways.held f.found in
    let fits : Fits shape (end_at v) r = found-each (Fits shape (end_at v)) block v.registers r m.registers.agree.fits f.found in
    let set_is = (holds.own block (works-own r block own_is)).1 in
    let way_is = held-way r v block way f.found held in
    let busy = data-quiet (end_at v block).outward came.0 came.1 in
    let lacks = passing-lacks v h block m busy in
    let nowhere = passing-nowhere v h block m own busy in
    let free = free-way v r f.acquire block (slot_at v (set_of v.geometry block) r.way.way) holds f.task own_is set_is nowhere refl in
    record {
      own = own;
      came = came;
      register = r;
      found = f.found;
      own_is = own_is;
      way_is = way_is;
      set_is = set_is;
      inside = subst (λ (w : ℕ). w < v.geometry.ways) way_is holds.inside;
      lacks = lacks;
      nowhere = nowhere;
      free = subst (λ (w : ℕ). slot_at v (set_of v.geometry block) w ≡ None) way_is free;
      ungranted =
          subst (λ (b : ℕ). grant_pending shape (end_at v b) ≡ false) own_is
          (ungranted-of shape (end_at v) r r.task f.acquire fits.task f.task (ap (λ b. (end_at v b).home) own_is ∙ lacks));
    }
