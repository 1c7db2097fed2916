-- A bank comes to rest: with each event by which something is received less is owed.
use Rattle.std.proofs.Common.{◌≡◌, ◌≢◌, ℕ, zero, suc, ◌<◌, Bool, true, List, [], ◌∷◌, ◌++◌, if◌then◌else◌, Option, Some, None, refl, sym, ◌∙◌, ap, arith, inl, inr, eq-eqb}
use Rattle.std.proofs.lemmas.Bool.{cases_eq, ne_eqb}
use Rattle.tl_map.specs.Numbers.{Numbers}
use Rattle.tl_protocol.proofs.Runs.{runs_grow_by_one}
use Rattle.tl_protocol.proofs.Work.{every_receiving_event_lowers}
use Rattle.tl_protocol.specs.Protocol.{Block, after, block_of}
use Rattle.tl_protocol.specs.Runs.{IsRun, MayNext, after_next}
use Rattle.tl_protocol.specs.Work.{is_receiving, sum_below, work, work_of_all}
use Rattle.tl_protocol.specs.declared.event.Event.{Event}
use Rattle.tl_protocol.specs.declared.shape.Shape.{Shape}
use Rattle.tl_protocol_lanes.specs.Lists.{IsOther}
use Rattle.tl_registers.specs.Fit.{event_of}
use Rattle.tl_registers.specs.declared.due.Due.{Due}
use Rattle.tl_registers.specs.declared.due.Due.TheVariants.{Probe, Grant, Get, Put, Drop}
use Rattle.tl_registers.specs.declared.register.Register.{Register}
use Rattle.tl_bank_spec.proofs.Counted.{every_event_leaves_other_counts}
use Rattle.tl_bank_spec.proofs.Logged.{back, block-next, extends-serves, may-next}
use Rattle.tl_bank_spec.specs.Counted.{client_counted}
use Rattle.tl_bank_spec.specs.Effects.{Advances, AppendsWith, TakesMemory}
use Rattle.tl_bank_spec.specs.Own.{way_at}
use Rattle.tl_bank_spec.specs.Refusal.{IsRefused}
use Rattle.tl_bank_spec.specs.Steps.{Appends, Extends}
use Rattle.tl_bank_spec.specs.Tables.{copies_at}
use Rattle.tl_bank_spec.specs.View.{View, end_at, shape_of}
use Rattle.tl_bank_spec.specs.declared.action.Action.{Action}
use Rattle.tl_bank_spec.specs.declared.refusal.Refusal.{Refusal}
use Rattle.tl_bank_rest.specs.Rest.{ReceivesOne, work_at}

-- ## Sums

-- sums of the same numbers are one
same-sum : (n : ℕ) (f g : ℕ → ℕ) → ((x : ℕ) → x < n → f x ≡ g x) → sum_below n f ≡ sum_below n g
same-sum zero f g same = refl
same-sum (suc n) f g same =
    let rest : sum_below n f ≡ sum_below n g = same-sum n f g (λ x l. same x (omega arith)) in
    let first : f n ≡ g n = same n (omega arith) in
    omega arith

-- a sum of which one number falls is less
less-sum : (n : ℕ) (f g : ℕ → ℕ) (c : ℕ) → c < n → ((x : ℕ) → x ≢ c → f x ≡ g x) → f c < g c → sum_below n f < sum_below n g
less-sum zero f g c inside same less = absurd (omega arith)
less-sum (suc n) f g c inside same less =
    elim (cases_eq n c) [
      | inl e ↦
          let rest : sum_below n f ≡ sum_below n g = same-sum n f g (λ x l. same x (λ h. omega arith)) in
          let first : f n < g n = rw e less in
          omega arith
      | inr apart ↦
          let first : f n ≡ g n = same n apart in
          let rest : sum_below n f < sum_below n g = less-sum n f g c (omega arith) same less in
          omega arith
    ]

-- ## What is owed

-- an event that lowers what its block owes lowers what all blocks owe
next-owes : (shape : Shape) (s : ℕ → Block) (e : Event) → block_of shape e < shape.blocks
    → work shape (after shape (s (block_of shape e)) e) < work shape (s (block_of shape e))
    → work_of_all shape (after_next shape s e) < work_of_all shape s
next-owes shape s e inside less =
    let own : ℕ = block_of shape e in
    let here : work shape (after_next shape s e own) ≡ work shape (after shape (s own) e) =
    ap (λ (t : Bool). work shape (if t then after shape (s own) e else s own)) (eq-eqb own own refl) in
    less-sum shape.blocks (λ b. work shape (after_next shape s e b)) (λ b. work shape (s b)) own inside
    (λ b ne. ap (λ (t : Bool). work shape (if t then after shape (s b) e else s b)) (ne_eqb b own ne))
    (rw here less)

-- so with one receiving event more a bank owes less
owes-less : (old new : View) (e : Event) → Extends old new e → IsRun (shape_of new.geometry) new.image new.log
    → is_receiving e ≡ true → work_at new < work_at old
owes-less old new e x run receiving =
    let shape : Shape = shape_of old.geometry in
    let was : IsRun shape old.image old.log × MayNext shape (end_at old) e =
    (((runs_grow_by_one shape old.image).2 old.log e).0.0 (back (λ g i log. IsRun (shape_of g) i log) old new e x run)) in
    let lower = ((every_receiving_event_lowers shape old.image).1 old.log e was.0 was.1).0 receiving in
    let less = next-owes shape (end_at old) e was.1.0 lower in
    let blocks : work_of_all shape (end_at new) ≡ work_of_all shape (after_next shape (end_at old) e) =
    same-sum shape.blocks (λ b. work shape (end_at new b)) (λ b. work shape (after_next shape (end_at old) e b))
    (λ b l. ap (work shape) (block-next old new e b x)) in
    let same : work_at new ≡ work_of_all shape (end_at new) =
    ap (λ (g : Numbers). work_of_all (shape_of g) (end_at new)) x.geometry in
    rw (same, blocks) less

-- ## One call

-- so it went, and each client has as many copies as before
abbrev pub Passes : View → View → Type 0
Passes old new = ReceivesOne old new × ((client : ℕ) → copies_at new client ≡ copies_at old client)

-- what a call leaves, with its own registers and ways
appended : (old new : View) (e : Event) (registers : List Register) (ways : ℕ → Option ℕ) → AppendsWith old new e registers ways
    → AppendsWith old new e new.registers (way_at new)
appended old new e registers ways s =
    let same : new.registers ≡ registers = ap (λ (v : View). v.registers) s.is in
    record {
      is = s.is
          ∙ ap (λ (rs : List Register). record old { log = old.log ++ e ∷ []; room = new.room; registers = rs; ways = new.ways }) (sym same);
      room = s.room;
      ways = λ block. refl;
    }

-- an event by which something is received
pub serves-receives : (old new : View) (e : Event) (registers : List Register) (ways : ℕ → Option ℕ)
    → AppendsWith old new e registers ways → IsRun (shape_of new.geometry) new.image new.log → is_receiving e ≡ true
    → ReceivesOne old new
serves-receives old new e registers ways s run receiving = record {
  event = e;
  serves = appended old new e registers ways s;
  receiving = receiving;
  less = owes-less old new e (extends-serves old new e registers ways s) run receiving;
}

-- a call that leaves registers and ways
pub appends-serves : (old new : View) (e : Event) → Appends old new e → AppendsWith old new e old.registers (way_at old)
appends-serves old new e a =
    let ways : new.ways ≡ old.ways = ap (λ (v : View). v.ways) a.is in
    record {
      is = a.is
          ∙ ap (λ (ws : List (Option ℕ)). record old { log = old.log ++ e ∷ []; room = new.room; registers = old.registers; ways = ws }) (sym ways);
      room = a.room;
      ways = λ block. ap (λ (v : View). way_at v block) a.is;
    }

-- an event of no share's client leaves each client's number of copies
is-other : (counted : Option ℕ) (x : ℕ) → counted ≡ None → IsOther counted x
is-other None x e = tt
is-other (Some c) x e = cc

-- so it passes on what was under way
pub serves-passes : (old new : View) (e : Event) (registers : List Register) (ways : ℕ → Option ℕ)
    → AppendsWith old new e registers ways → IsRun (shape_of new.geometry) new.image new.log → is_receiving e ≡ true
    → client_counted e ≡ None → Passes old new
serves-passes old new e registers ways s run receiving none =
    let x : Extends old new e = extends-serves old new e registers ways s in (
      serves-receives old new e registers ways s run receiving,
      λ client. every_event_leaves_other_counts old new e client (may-next old new e x run) x (is-other (client_counted e) client none),
    )

-- each action of a register is such an event
due-receives : (own : ℕ) (due : Due) → (is_receiving (event_of own due) ≡ true) × (client_counted (event_of own due) ≡ None)
due-receives own (Probe c block cap) = (refl, refl)
due-receives own (Grant c) = (refl, refl)
due-receives own Get = (refl, refl)
due-receives own (Put block) = (refl, refl)
due-receives own (Drop block) = (refl, refl)

-- a register's action
pub advance-passes : (old new : View) (own : ℕ) (action : Action) → Advances old new own action
    → IsRun (shape_of new.geometry) new.image new.log → Passes old new
advance-passes old new own action a run =
    let both = due-receives own a.due in
    serves-passes old new (event_of own a.due) _ _ a.serves run both.0 both.1

-- the taking of the memory's answer
pub memory-passes : (old new : View) (block : ℕ) → TakesMemory old new block → IsRun (shape_of new.geometry) new.image new.log
    → Passes old new
memory-passes old new block t run =
    elim t [
      | inl came ↦ serves-passes old new _ _ _ came.serves run refl refl
      | inr put ↦ serves-passes old new _ _ _ put.serves run refl refl
    ]

-- where no case refuses a call, only want of memory does
pub only-memory : (refusal : Option Refusal) (room : ℕ) (answer : Refusal) → refusal ≡ None → IsRefused refusal room answer
    → IsRefused None room answer
only-memory None room answer e h = h
only-memory (Some refusal) room answer e h = cc
