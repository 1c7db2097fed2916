-- Where nothing passes a register acts, and where no register is open an Acquire is accepted.
use Rattle.std.proofs.Common.{◌≡◌, ◌≢◌, ℕ, ◌<◌, ◌≤◌, ◌==◌, not, Bool, true, false, List, [], ◌∷◌, length, Option, Some, None, is_none, refl, ◌∙◌, ap, subst, arith, eq-eqb, eqb-true, inl, inr, if◌then◌else◌}
use Rattle.std.specs.List.{AllByRecursion}
use Rattle.std.proofs.lemmas.Bool.{cases_Bool, not-false, or_parts, or_right}
use Rattle.std.proofs.lemmas.Bool.Decides.{nat_tests}
use Rattle.tl_types.proofs.Lowest.{lowest-none}
use Rattle.tl_types.specs.Lowest.{lowest}
use Rattle.tl_types.specs.declared.channel.Channel.TheVariants.{B, D}
use Rattle.tl_map.specs.Limits.{IsLawful}
use Rattle.tl_map.specs.Places.{bank_of, set_of}
use Rattle.tl_protocol.proofs.Pending.{every_run_keeps_service}
use Rattle.tl_protocol.specs.declared.home.Outward.{Outward}
use Rattle.tl_protocol.specs.declared.home.Outward.TheVariants.{Quiet, Get as o_Get, Data, Put as o_Put, PutAck}
use Rattle.tl_protocol.specs.Runs.{MayNext}
use Rattle.tl_protocol_lanes.specs.Lawful.{Lawful}
use Rattle.tl_registers.proofs.Acts.{every-register-acts}
use Rattle.tl_registers.proofs.Permitted.{every-action-is-permitted}
use Rattle.tl_registers.specs.Agree.{Agree}
use Rattle.tl_registers.specs.Fit.{Fits, event_of}
use Rattle.tl_registers.specs.NextAction.{next_due}
use Rattle.tl_registers.specs.Register.{is_block, victim_of, works_on}
use Rattle.tl_registers.specs.Registers.{due_of, is_busy, is_held, register_of}
use Rattle.tl_registers.specs.declared.due.Due.{Due}
use Rattle.tl_registers.specs.declared.due.Due.TheVariants.{Probe, Grant, Get, Put, Drop}
use Rattle.tl_registers.specs.declared.register.Register.{Register}
use Rattle.tl_bank_spec.specs.Cases.{elsewhere, no_block}
use Rattle.tl_bank_spec.specs.HomeCalls.{advance_cases}
use Rattle.tl_bank_spec.specs.HomeCases.{busy, due_at, due_full, lacks, no_register}
use Rattle.tl_bank_spec.specs.Own.{IsOwn}
use Rattle.tl_bank_spec.specs.View.{View, end_at, shape_of}
use Rattle.tl_bank_spec.specs.Views.{not_own, outward_at, passing}
use Rattle.tl_bank_spec.specs.Ways.{holds_way, registers_full, way_in_set, ways_held}
use Rattle.tl_bank_rest.proofs.Cases.{NoneHolds, empty-room}
use Rattle.tl_bank_rest.proofs.Empty.{nothing-passes}
use Rattle.tl_bank_rest.specs.Heads.{AllTaken}

-- ## Blocks of the bank

-- a block of the bank is of the memory
block-there : (v : View) (block : ℕ) → IsOwn v.geometry v.number block → no_block v block ≡ false
block-there v block own = let lt : block < v.geometry.memory_blocks = own.0 in grind (arith, nat_tests)

-- and of no other bank
block-here : (v : View) (block : ℕ) → IsOwn v.geometry v.number block → elsewhere v block ≡ false
block-here v block own = rw (eq-eqb (bank_of v.geometry block) v.number own.1) refl

-- so the bank has it
pub own-not : (v : View) (block : ℕ) → IsOwn v.geometry v.number block → not_own v block ≡ false
own-not v block own = rw (block-there v block own, block-here v block own) refl

-- what the bank has is of it
pub own-is : (v : View) (block : ℕ) → no_block v block ≡ false → elsewhere v block ≡ false → IsOwn v.geometry v.number block
own-is v block there here = (
  grind (arith, nat_tests),
  eqb-true (bank_of v.geometry block) v.number (not-false (bank_of v.geometry block == v.number) here),
)

-- ## The memory

-- what is shown to pass does
passing-is : (o p : Outward) → passing o ≡ Some p → o ≡ p
passing-is Quiet p h = cc
passing-is o_Get p h = cc
passing-is (Data bytes) p h = cc
passing-is (o_Put bytes) p h = cc
passing-is PutAck p h = cc

-- where nothing is shown to pass nothing does
passing-none : (o : Outward) → passing o ≡ None → o ≡ Quiet
passing-none Quiet h = refl
passing-none o_Get h = cc
passing-none (Data bytes) h = cc
passing-none (o_Put bytes) h = cc
passing-none PutAck h = cc

-- what a bank shows to pass of a block is of a block that it has, and passes
pub shown-outward : (v : View) (block : ℕ) (o : Outward) → outward_at v block ≡ Some o
    → (no_block v block ≡ false) × (elsewhere v block ≡ false) × ((end_at v block).outward ≡ o)
shown-outward v block o h =
    elim (cases_Bool (not_own v block)) [
      | inl e ↦ let bad : None ≡ Some o = (rw e at h) in cc
      | inr e ↦
          let both = or_parts (no_block v block) (elsewhere v block) e in
          (both.0, both.1, passing-is (end_at v block).outward o (rw e at h))
    ]

-- of its own block of which it shows nothing nothing passes
pub shown-quiet : (v : View) (block : ℕ) → outward_at v block ≡ None → IsOwn v.geometry v.number block
    → (end_at v block).outward ≡ Quiet
shown-quiet v block h own = passing-none (end_at v block).outward (rw (own-not v block own) at h)

-- ## The oldest register

-- a register works on its own block
on-own : (r : Register) → works_on r r.own ≡ true
on-own r = rw (eq-eqb r.own r.own refl) refl

-- and on its victim
on-victim : (r : Register) (victim : ℕ) → victim_of r ≡ Some victim → works_on r victim ≡ true
on-victim r victim e =
    or_right (r.own == victim) (is_block victim (victim_of r)) (ap (is_block victim) e ∙ eq-eqb victim victim refl)

-- the blocks of the oldest register are busy
oldest-busy : (r : Register) (rest : List Register) (block : ℕ) → works_on r block ≡ true → is_busy block (r ∷ rest) ≡ true
oldest-busy r rest block on = rw on refl

-- what the oldest register does next is what its block's does
oldest-due : (v : View) (r : Register) (rest : List Register) → v.registers ≡ r ∷ rest
    → due_at v r.own ≡ next_due (shape_of v.geometry) (end_at v) r
oldest-due v r rest is =
    ap (λ (xs : List Register). due_of (shape_of v.geometry) (end_at v) (register_of r.own xs)) is
    ∙ ap (λ (t : Bool). due_of (shape_of v.geometry) (end_at v) (if t then Some r else register_of r.own rest)) (eq-eqb r.own r.own refl)

-- something is not nothing
not-none : (o : Option Due) → o ≢ None → is_none o ≡ false
not-none None h = absurd (h refl)
not-none (Some due) h = refl

-- the channel that an action sends on has room where no message waits on B and D
due-room : (v : View) (r : Register) (due : Option Due) → Lawful (shape_of v.geometry) v.image v.log
    → Fits (shape_of v.geometry) (end_at v) r → AllTaken v → next_due (shape_of v.geometry) (end_at v) r ≡ due → due_full v due ≡ false
due-room v r None lawful fits silent is = refl
due-room v r (Some (Probe c block cap)) lawful fits silent is =
    let may : MayNext (shape_of v.geometry) (end_at v) (event_of r.own (Probe c block cap)) =
    every-action-is-permitted (shape_of v.geometry) (end_at v) r (Probe c block cap)
    (every_run_keeps_service (shape_of v.geometry) v.image v.log lawful.run) fits is in
    empty-room v c B (silent.b c may.1.0)
due-room v r (Some (Grant c)) lawful fits silent is =
    let may : MayNext (shape_of v.geometry) (end_at v) (event_of r.own (Grant c)) =
    every-action-is-permitted (shape_of v.geometry) (end_at v) r (Grant c)
    (every_run_keeps_service (shape_of v.geometry) v.image v.log lawful.run) fits is in
    empty-room v c D (silent.d c may.1.0)
due-room v r (Some Get) lawful fits silent is = refl
due-room v r (Some (Put block)) lawful fits silent is = refl
due-room v r (Some (Drop block)) lawful fits silent is = refl

-- the oldest register's next action is not refused, where no message waits but on A and nothing of its blocks passes to the memory
pub oldest-advances : (v : View) (r : Register) (rest : List Register) → v.registers ≡ r ∷ rest
    → Lawful (shape_of v.geometry) v.image v.log → Agree (shape_of v.geometry) (end_at v) v.registers
    → ((block : ℕ) → is_busy block v.registers ≡ true → IsOwn v.geometry v.number block) → AllTaken v
    → (IsOwn v.geometry v.number r.own → (end_at v r.own).outward ≡ Quiet)
    → ((victim : ℕ) → victim_of r ≡ Some victim → IsOwn v.geometry v.number victim → (end_at v victim).outward ≡ Quiet)
    → NoneHolds (advance_cases v r.own)
oldest-advances v r rest is lawful agree own silent quiet gone =
    let F : List Register → Type 0 = λ xs. AllByRecursion (Fits (shape_of v.geometry) (end_at v)) xs in
    let fits : Fits (shape_of v.geometry) (end_at v) r = (subst F is agree.fits).0 in
    let on : (block : ℕ) → works_on r block ≡ true → IsOwn v.geometry v.number block =
    λ block w. own block (ap (is_busy block) is ∙ oldest-busy r rest block w) in
    let mine : IsOwn v.geometry v.number r.own = on r.own (on-own r) in
    let acts : next_due (shape_of v.geometry) (end_at v) r ≢ None =
    every-register-acts (shape_of v.geometry) (end_at v) r fits (nothing-passes v lawful silent r.own (quiet mine))
    (λ victim e. nothing-passes v lawful silent victim (gone victim e (on victim (on-victim r victim e)))) in
    let same = oldest-due v r rest is in (
      block-there v r.own mine,
      (
        block-here v r.own mine,
        (
          ap is_none same ∙ not-none (next_due (shape_of v.geometry) (end_at v) r) acts,
          (ap (due_full v) same ∙ due-room v r (next_due (shape_of v.geometry) (end_at v) r) lawful fits silent refl, tt),
        ),
      ),
    )

-- ## No register is open

-- with no register open no block is busy
pub none-busy : (v : View) (block : ℕ) → v.registers ≡ [] → busy v block ≡ false
none-busy v block none = ap (is_busy block) none

-- not all registers are in use
pub none-full : (v : View) → v.registers ≡ [] → IsLawful v.geometry → registers_full v ≡ false
none-full v none g =
    let some : 1 ≤ v.geometry.registers = g.registers.least in
    let zero-of : length v.registers ≡ 0 = ap length none in
    grind (arith, nat_tests)

-- and no way is held
none-held : (v : View) (set : ℕ) → v.registers ≡ [] → IsLawful v.geometry → ways_held v set ≡ false
none-held v set none g =
    let some : 0 < v.geometry.ways = let least : 1 ≤ v.geometry.ways = g.ways.least in omega arith in
    let free : not (holds_way v set 0) ≡ true = ap (λ (xs : List Register). not (is_held (way_in_set set 0) xs)) none in
    let split : (o : Option ℕ) → lowest (λ way. not (holds_way v set way)) v.geometry.ways ≡ o → is_none o ≡ false =
    elim [
      | None ↦ λ e.
          let bad : not (holds_way v set 0) ≡ false = lowest-none (λ way. not (holds_way v set way)) v.geometry.ways 0 e some in
          cc
      | Some way ↦ λ e. refl
    ] in
    split (lowest (λ way. not (holds_way v set way)) v.geometry.ways) refl

-- so a register may open for each block
pub none-refuses : (v : View) (block : ℕ) → v.registers ≡ [] → IsLawful v.geometry → no_register v block ≡ false
none-refuses v block none g =
    let full = none-full v none g in
    let held = none-held v (set_of v.geometry block) none g in
    elim (cases_Bool (lacks v block)) [ inl e ↦ rw (full, e, held) refl | inr e ↦ rw (full, e) refl ]
