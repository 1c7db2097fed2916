-- Home takes the acknowledgement of a Put: the victim is gone.
use Rattle.std.proofs.Common.{◌≡◌, ◌≢◌, ℕ, ◌≤◌, ◌==◌, ◌&&◌, ◌||◌, not, Bool, true, false, List, ◌∷◌, [], length, filter, Option, Some, None, is_none, if◌then◌else◌, refl, sym, ◌∙◌, ap, arith, inl, inr, eqb-true}
use Rattle.std.specs.List.{AllByRecursion}
use Rattle.tl_types.proofs.Booleans.{or-else}
use Rattle.std.proofs.Math.Bool.{or-true}
use Rattle.std.proofs.lemmas.Bool.{cases_Bool, or_parts, and_parts}
use Rattle.std.specs.List.{list_any}
use Rattle.std.proofs.lemmas.List.{length-map}
use Rattle.tl_protocol.specs.Home.{IsData}
use Rattle.tl_protocol.specs.Pending.{IsServiceAt}
use Rattle.tl_protocol.specs.Protocol.{Block}
use Rattle.tl_protocol.specs.declared.event.Event.TheVariants.{TakePutAck}
use Rattle.tl_protocol.specs.declared.home.Line.{Line}
use Rattle.tl_protocol.specs.declared.home.Outward.{Outward}
use Rattle.tl_protocol.specs.declared.home.Outward.TheVariants.{Quiet, Get, Data, Put, PutAck}
use Rattle.tl_protocol.specs.declared.shape.Shape.{Shape}
use Rattle.tl_registers.specs.declared.register.Register.{Register}
use Rattle.tl_registers.specs.declared.register.Task.{Task}
use Rattle.tl_registers.specs.declared.register.Task.TheVariants.{Acquire, Replace, Evict}
use Rattle.tl_registers.specs.declared.way_of_set.WayOfSet.{WayOfSet}
use Rattle.tl_registers.specs.Register.{is_block, victim_in}
use Rattle.tl_registers.specs.Registers.{ended, is_evict, is_held, task_without, without_evict, without_victim}
use Rattle.tl_registers.proofs.Closing.{ending-keeps-agreement}
use Rattle.tl_registers.proofs.Tables.{each-filter, each-follows, each-map}
use Rattle.tl_bank_home.specs.Homes.{HomeState, SameBank, SameHome, SameMemory, order_at, outward_in, way_in}
use Rattle.tl_bank_spec.specs.HomeCalls.{take_memory_cases}
use Rattle.tl_bank_spec.specs.HomeCases.{is_reply}
use Rattle.tl_bank_spec.specs.Refusal.{first_of}
use Rattle.tl_bank_spec.specs.View.{View, end_at, shape_of}
use Rattle.tl_bank_spec.specs.Own.{IsOwn, way_at, ways_below}
use Rattle.tl_bank_spec.specs.Ways.{lies_in, slot_at, slots_at}
use Rattle.tl_bank_laws.specs.Layers.{Layers}
use Rattle.tl_bank_laws.specs.Means.{HoldsWay, IsHomeOf, Means, WaysApart, WaysFit, is_filling, is_filling_by}
use Rattle.tl_bank_laws.proofs.Allowed.{AllFalse, all-false, block-is, here-is}
use Rattle.tl_bank_laws.proofs.HomeSteps.{SameAt, homes-event, homes-layers}
use Rattle.tl_bank_laws.proofs.Moves.{Lies, at-block, at-other, lies-of}
use Rattle.tl_bank_laws.proofs.Next.{means-next, next_view, registers-next}
use Rattle.tl_bank_laws.proofs.Orders.{order-fills}
use Rattle.tl_bank_laws.proofs.Slots.{below-at, slot-lies, slots-some, true-lies, none-is}
use Rattle.tl_bank_laws.proofs.Ways.{bank-steady, same-work, ways-stay}

-- ## What may be taken

-- a block of the bank
pub take-own : (v : View) (block : ℕ) → first_of (take_memory_cases v block) ≡ None → IsOwn v.geometry v.number block
take-own v block none =
    let f : AllFalse (take_memory_cases v block) = all-false (take_memory_cases v block) none in
    (block-is v block f.0, here-is v block f.1.0)

-- an answer of the memory that acknowledges no Put is the bytes that home asked for
data-is : (out : Outward) → is_reply out ≡ true → (out ≡ PutAck → ⊥) → IsData out
data-is Quiet h other = cc
data-is Get h other = cc
data-is (Data bytes) h other = (bytes, refl)
data-is (Put bytes) h other = cc
data-is PutAck h other = absurd (other refl)

-- where home and what is pending are as every run keeps them, home lacks a block of which something passes
lacks-home : (shape : Shape) (s : Block) (home : Option Line) → IsServiceAt shape s → s.home ≡ home → (s.outward ≡ Quiet → ⊥) → s.home ≡ None
lacks-home shape s None kept is busy = is
lacks-home shape s (Some line) kept is busy = absurd (busy (kept.quiet line is))

-- home lacks a block of which something passes
pub passing-lacks : (v : View) (h : Layers) (block : ℕ) → Means v h → ((end_at v block).outward ≡ Quiet → ⊥) → (end_at v block).home ≡ None
passing-lacks v h block m busy =
    lacks-home (shape_of v.geometry) (end_at v block) (end_at v block).home ((bank-steady v h m).service block) refl busy

-- so it lies nowhere
pub passing-nowhere : (v : View) (h : Layers) (block : ℕ) → Means v h → IsOwn v.geometry v.number block
    → ((end_at v block).outward ≡ Quiet → ⊥) → way_at v block ≡ None
passing-nowhere v h block m own busy =
    let lacks = passing-lacks v h block m busy in
    none-is (way_at v block) (sym (m.ways.holds block own) ∙ ap is_none lacks)

-- ## Home

-- what became of home
pub record TookPutAck (old new : HomeState) (block : ℕ) : Type 0 where
  pub bank : SameBank old new
  pub home : SameHome old new
  pub outward : (b : ℕ) → outward_in new b ≡ (if b == block then Quiet else outward_in old b)
  pub memory : SameMemory old new

-- home has of the block what taking the acknowledgement leaves
put_ack-home : (old new : HomeState) (block : ℕ) (s : Block) → TookPutAck old new block → IsHomeOf old block s
    → IsHomeOf new block (record s { outward = Quiet })
put_ack-home old new block s did h = record {
  line = did.home.lines block ∙ h.line;
  recorded = λ c. did.home.recorded c block ∙ h.recorded c;
  outward = did.outward block ∙ at-block block Quiet (outward_in old block);
  memory = did.memory block ∙ h.memory;
}

-- and of each other block what it had
put_ack-others : (old new : HomeState) (block : ℕ) → TookPutAck old new block → (b : ℕ) → b ≢ block → SameAt old new b
put_ack-others old new block did b ne = record {
  line = did.home.lines b;
  recorded = λ c. did.home.recorded c b;
  outward = did.outward b ∙ at-other block b Quiet (outward_in old b) ne;
  memory = did.memory b;
}

-- ## The registers then

-- the registers that pass a test are no more than there were
filter-few : (test : Register → Bool) (xs : List Register) → length (filter test xs) ≤ length xs
filter-few test [] = omega arith
filter-few test (r ∷ rest) =
    let few = filter-few test rest in
    elim (cases_Bool (test r)) [
      | inl e ↦ rw e (omega (arith, few))
      | inr e ↦ rw e (omega (arith, few))
    ]

-- there are no more than before
pub ended-few : (block : ℕ) (xs : List Register) → length (ended block xs) ≤ length xs
ended-few block xs =
    let same = length-map (without_evict block xs) (without_victim block) in
    let few = filter-few (λ r. not (is_evict r.task && (r.own == block))) xs in
    omega (arith, same, few)

-- a register with this own block and this task works on the block
abbrev Works : ℕ → ℕ → Task → Type 0
Works own b task = ((own == b) || is_block b (victim_in own task)) ≡ true

-- a register that goes on without a victim works on no other block than before
fewer : (own victim b : ℕ) (task : Task) → Works own b (task_without victim task) → Works own b task
fewer own victim b (Acquire acquire) h = h
fewer own victim b (Replace acquire other) h =
    elim (cases_Bool (own == b)) [
      | inl e ↦ rw e refl
      | inr e ↦ elim (cases_Bool (other == victim)) [
        | inl t ↦ let g : ((own == b) || false) ≡ true = (rw t at h) in let bad = or-else (own == b) false g e in cc
        | inr t ↦ (rw t at h)
      ]
    ]
fewer own victim b Evict h = h

-- and on all of them but the victim
still : (own victim b : ℕ) (task : Task) → b ≢ victim → Works own b task → Works own b (task_without victim task)
still own victim b (Acquire acquire) ne h = h
still own victim b (Replace acquire other) ne h =
    elim (cases_Bool (other == victim)) [
      | inr t ↦ rw t h
      | inl t ↦
          elim (cases_Bool (own == b)) [
            | inl e ↦ rw (t, e) refl
            | inr e ↦
                let is : (other == b) ≡ true = or-else (own == b) (other == b) h e in
                absurd (ne (sym (eqb-true other b is) ∙ eqb-true other victim t))
          ]
    ]
still own victim b Evict ne h = h

-- An evict register works on its own block alone.
evict-own : (own b : ℕ) (task : Task) → is_evict task ≡ true → Works own b task → b ≡ own
evict-own own b (Acquire acquire) is h = cc
evict-own own b (Replace acquire other) is h = cc
evict-own own b Evict is h =
    elim (cases_Bool (own == b)) [
      | inl e ↦ sym (eqb-true own b e)
      | inr e ↦ let bad = or-else (own == b) (own == b) h e in let worse : true ≡ false = sym bad ∙ e in cc
    ]

-- ## The ways that they hold

-- the view once the victim is gone
abbrev pub ended_view : View → ℕ → View
ended_view v block = record v { registers = ended block v.registers }

-- a register still holds its way, where the victim lies nowhere
ended-holds : (v : View) (block : ℕ) (q : Register) → way_at v block ≡ None → HoldsWay v q
    → HoldsWay (ended_view v block) (without_victim block q)
ended-holds v block q nowhere holds = record {
  inside = holds.inside;
  own = λ b on. holds.own b (fewer q.own block b q.task on);
  lies = λ b w on at. holds.lies b w (fewer q.own block b q.task on) at;
  alone = λ b l lies.
      let there : Lies v q.way.set q.way.way b = lies-of v q.way.set q.way.way b l lies in
      still q.own block b q.task
      (λ is. let bad : None ≡ Some q.way.way = sym nowhere ∙ (ap (way_at v) (sym is) ∙ there.lies) in cc)
      (holds.alone b l lies);
}

-- a way that no register held is held by none of those that go on
held-ended : (way : WayOfSet) (block : ℕ) (xs : List Register) → is_held way xs ≡ false → is_held way (ended block xs) ≡ false
held-ended way block [] h = refl
held-ended way block (q ∷ rest) h =
    let both = or_parts ((q.way.set == way.set) && (q.way.way == way.way)) (is_held way rest) h in
    let more = held-ended way block rest both.1 in
    elim (cases_Bool (is_evict q.task && (q.own == block))) [
      | inl e ↦ rw e more
      | inr e ↦ rw (e, both.0) more
    ]

-- no two of them hold one way
ended-apart : (block : ℕ) (xs : List Register) → WaysApart xs → WaysApart (ended block xs)
ended-apart block [] h = tt
ended-apart block (q ∷ rest) h =
    elim (cases_Bool (is_evict q.task && (q.own == block))) [
      | inl e ↦ rw e (ended-apart block rest h.1)
      | inr e ↦ rw e (held-ended q.way block rest h.0, ended-apart block rest h.1)
    ]

-- a test that a register passes which evicts not the block, is passed by one of those that stay
any-ended : (P Q : Register → Bool) (block : ℕ) (xs : List Register)
    → AllByRecursion (λ q. P q ≡ true → ((is_evict q.task && (q.own == block)) ≡ false) × (Q (without_victim block q) ≡ true)) xs
    → list_any P xs ≡ true → list_any Q (ended block xs) ≡ true
any-ended P Q block [] f h = cc
any-ended P Q block (q ∷ rest) f h =
    elim (cases_Bool (P q)) [
      | inl e ↦ let here = f.0 e in rw here.0 (rw here.1 refl)
      | inr e ↦
          let more = any-ended P Q block rest f.1 (or-else (P q) (list_any P rest) h e) in
          elim (cases_Bool (is_evict q.task && (q.own == block))) [
            | inl t ↦ rw t more
            | inr t ↦ rw t (rw more (or-true (Q (without_victim block q))))
          ]
    ]

-- a way that a register fills, in which a block lies, is still filled
ended-fills : (v : View) (block set way b : ℕ) → AllByRecursion (HoldsWay v) v.registers → way_at v block ≡ None → slot_at v set way ≡ Some b
    → is_filling v set way ≡ true → is_filling (ended_view v block) set way ≡ true
ended-fills v block s way b held nowhere at fills =
    let slot = slot-lies v s way b at in
    any-ended (is_filling_by v s way) (is_filling_by (ended_view v block) s way) block v.registers
    (each-follows (HoldsWay v)
    (λ q. is_filling_by v s way q ≡ true
    → ((is_evict q.task && (q.own == block)) ≡ false) × (is_filling_by (ended_view v block) s way (without_victim block q) ≡ true))
    v.registers
    (λ q holds by. (
      elim (cases_Bool (is_evict q.task && (q.own == block))) [
        | inr e ↦ e
        | inl e ↦
            let gone = and_parts (is_evict q.task) (q.own == block) e in
            let parts = and_parts ((q.way.set == s) && (q.way.way == way)) _ by in
            let in_way = and_parts (q.way.set == s) (q.way.way == way) parts.0 in
            let set_is : s ≡ q.way.set = sym (eqb-true q.way.set s in_way.0) in
            let way_is : way ≡ q.way.way = sym (eqb-true q.way.way way in_way.1) in
            let there : lies_in v q.way.set q.way.way b ≡ true =
            true-lies v q.way.set q.way.way b slot.0.1 (slot.1 ∙ set_is) (slot.2 ∙ ap Some way_is) in
            let is : b ≡ block = evict-own q.own b q.task gone.0 (holds.alone b slot.0.0 there) ∙ eqb-true q.own block gone.1 in
            let bad : None ≡ Some way = sym nowhere ∙ (ap (way_at v) (sym is) ∙ slot.2) in
            absurd (cc)
      ],
      by,
    ))
    held)
    fills

-- the ways fit the registers that go on
pub ended-fits : (v : View) (home : HomeState) (block : ℕ) → way_at v block ≡ None → WaysFit v home → WaysFit (ended_view v block) home
ended-fits v home block nowhere fit =
    let test : Register → Bool = λ q. not (is_evict q.task && (q.own == block)) in
    let w : View = ended_view v block in
    record {
      shown = fit.shown;
      inside = fit.inside;
      once = fit.once;
      holds = fit.holds;
      free = fit.free;
      held = each-map (HoldsWay w) (without_victim block) (filter test v.registers)
          (each-filter (λ q. HoldsWay w (without_victim block q)) test v.registers
          (each-follows (HoldsWay v) (λ q. test q ≡ true → HoldsWay w (without_victim block q)) v.registers
          (λ q holds stays. ended-holds v block q nowhere holds) fit.held));
      apart = ended-apart block v.registers fit.apart;
      orders = λ s k.
          order-fills (slots_at v s) (is_filling v s) (is_filling w s) v.log (order_at home s)
          (λ way b lies fills. ended-fills v block s way b fit.held nowhere (slots-some v s way b lies).1 fills)
          (fit.orders s k);
    }

-- ## The bank then

-- of a block whose acknowledgement waits something passes
put_ack-busy : (out : Outward) → out ≡ PutAck → out ≡ Quiet → ⊥
put_ack-busy out is quiet = let bad : PutAck ≡ Quiet = sym is ∙ quiet in cc

-- The bank after home took the acknowledgement.
pub put_ack-keeps : (v : View) (h : Layers) (home : HomeState) (block room : ℕ) → Means v h
    → first_of (take_memory_cases v block) ≡ None → (end_at v block).outward ≡ PutAck → TookPutAck h.home home block
    → Means (next_view v (TakePutAck block) room (ended block v.registers) (ways_below (way_in home) v.geometry.memory_blocks))
    (record h { home = home })
put_ack-keeps v h home block room m none is did =
    let own = take-own v block none in
    let e = TakePutAck block in
    let registers : List Register = ended block v.registers in
    let ways : List (Option ℕ) = ways_below (way_in home) v.geometry.memory_blocks in
    let nowhere = passing-nowhere v h block m own (put_ack-busy (end_at v block).outward is) in
    let steady = bank-steady v h m in
    let few = ended-few block v.registers in
    let were = m.registers.few in
    means-next v h (record h { home = home }) e room registers ways m
    (homes-event v e tt (own.0, is) own.1)
    (homes-layers v h home e m tt own (record {
      bank = did.bank;
      at = put_ack-home h.home home block (end_at v block) did (m.home block own);
      others = put_ack-others h.home home block did;
    }))
    (registers-next v e room registers ways
    (ending-keeps-agreement (shape_of v.geometry) (end_at v) v.registers block steady m.registers.agree (own.0, is))
    (omega (arith, few, were)))
    (ways-stay (ended_view v block) e room registers ways h.home home steady tt tt (same-work registers) did.home.ways
    (below-at (way_in home) v.geometry.memory_blocks) (ended-fits v h.home block nowhere m.ways))
