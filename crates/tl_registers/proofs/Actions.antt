-- What a register does next is of the block that it works on.
use Rattle.std.proofs.Common.{◌≡◌, ℕ, Bool, true, false, [], ◌∷◌, Option, Some, None, if◌then◌else◌, refl, sym, ◌∙◌, subst, inl, inr}
use Rattle.std.specs.Prelude.{◌⊎◌}
use Rattle.tl_types.specs.Lowest.{lowest}
use Rattle.tl_types.specs.declared.permission.ProbeCap.TheVariants.{ToN}
use Rattle.tl_protocol.specs.Protocol.{Block}
use Rattle.tl_protocol.specs.declared.home.Accepted.{Accepted}
use Rattle.tl_protocol.specs.declared.home.Line.{Line}
use Rattle.tl_protocol.specs.declared.shape.Shape.{Shape}
use Rattle.tl_registers.specs.declared.due.Due.{Due}
use Rattle.tl_registers.specs.declared.due.Due.TheVariants.{Probe, Grant, Get, Put, Drop}
use Rattle.tl_registers.specs.declared.register.Register.{Register}
use Rattle.tl_registers.specs.declared.register.Task.{Task}
use Rattle.tl_registers.specs.declared.register.Task.TheVariants.{Acquire, Replace, Evict}
use Rattle.tl_registers.specs.Agree.{IsToProbe, IsOf, EveryActionIsOfItsRegister}
use Rattle.tl_registers.specs.NextAction.{acts, first, probe_victim, await_probes, give_up, await_put, probes_before, fetch, probe_others, grant, serve, cases}
use Rattle.tl_registers.specs.Pending.{probe_pending, grant_pending, is_quiet}
use Rattle.tl_registers.specs.Register.{must_probe, victim_in}
use Rattle.tl_registers.proofs.Permitted.{probes-first, gone, fetched, granting, away-first}

-- the same, told by the task
abbrev IsOfTask : Register → Task → Due → Type 0
IsOfTask r task (Probe c block cap) = IsToProbe r task block cap
IsOfTask r task (Grant c) = (acquire : Accepted) × (task ≡ Acquire acquire) × (acquire.client ≡ c)
IsOfTask r task Get = (acquire : Accepted) × (task ≡ Acquire acquire)
IsOfTask r task (Put block) = victim_in r.own task ≡ Some block
IsOfTask r task (Drop block) = victim_in r.own task ≡ Some block

-- the actions on a block that leaves home
abbrev IsAway : ℕ → Due → Type 0
IsAway block due = ((c : ℕ) × (due ≡ Probe c block ToN)) ⊎ ((due ≡ Put block) ⊎ (due ≡ Drop block))

-- home gives a block up by a Put or a Drop of it
given : (t : Bool) (block : ℕ) (due : Due) → Some (if t then Put block else Drop block) ≡ Some due → (due ≡ Put block) ⊎ (due ≡ Drop block)
given true block due h = inl (cc)
given false block due h = inr (cc)

-- what is done next with a block that leaves home is a Probe toN, a Put or a Drop of it
away-is : (shape : Shape) (s : Block) (r : Register) (block : ℕ) (home : Option Line) (due : Due)
    → first (probe_victim shape r block s home ∷ await_probes shape s ∷ give_up block home ∷ await_put ∷ []) ≡ Some due
    → IsAway block due
away-is shape s r block None due h = absurd (gone (probe_pending shape s) due h)
away-is shape s r block (Some line) due h =
    elim (probes-first (lowest (must_probe r s None ToN) shape.clients) block ToN (probe_pending shape s)
    (acts (if line.dirty then Put block else Drop block) ∷ await_put ∷ []) due h) [
      | inl k ↦ inl (k.0, k.2)
      | inr k ↦ inr (given line.dirty block due k.2)
    ]

-- an action on the victim that leaves home is of the task that replaces it
replaced : (r : Register) (acquire : Accepted) (victim : ℕ) (due : Due) → IsAway victim due → IsOfTask r (Replace acquire victim) due
replaced r acquire victim due h =
    let P = λ (d : Due). IsOfTask r (Replace acquire victim) d in
    elim h [
      | inl k ↦ subst P (sym k.1) (refl, refl)
      | inr k ↦ elim k [ inl e ↦ subst P (sym e) refl | inr e ↦ subst P (sym e) refl ]
    ]

-- an action on the own block that leaves home is of the task that evicts it
evicted : (r : Register) (due : Due) → IsAway r.own due → IsOfTask r Evict due
evicted r due h =
    let P = λ (d : Due). IsOfTask r Evict d in
    elim h [
      | inl k ↦ subst P (sym k.1) (refl, refl)
      | inr k ↦ elim k [ inl e ↦ subst P (sym e) refl | inr e ↦ subst P (sym e) refl ]
    ]

-- what is done next to serve an Acquire is of the task that serves it
serve-is : (shape : Shape) (s : Block) (r : Register) (acquire : Accepted) (home : Option Line) (due : Due)
    → first (fetch s home ∷ probe_others shape r acquire s ∷ await_probes shape s ∷ grant shape acquire s ∷ []) ≡ Some due
    → IsOfTask r (Acquire acquire) due
serve-is shape s r acquire None due h =
    let P = λ (d : Due). IsOfTask r (Acquire acquire) d in
    let k = fetched (is_quiet s.outward) (probe_others shape r acquire s ∷ await_probes shape s ∷ grant shape acquire s ∷ []) due h in
    subst P k.1 (acquire, refl)
serve-is shape s r acquire (Some line) due h =
    let P = λ (d : Due). IsOfTask r (Acquire acquire) d in
    let cap = probes_before acquire.grow in
    elim (probes-first (lowest (must_probe r s (Some acquire.client) cap) shape.clients) r.own cap (probe_pending shape s) (grant shape acquire s ∷ []) due h) [
      | inl k ↦ subst P (sym k.2) (refl, refl)
      | inr k ↦ let g = granting (grant_pending shape s) acquire.client due k.2 in subst P g.1 (acquire, refl, refl)
    ]

-- what a register does next for a task is of that task
task-is : (shape : Shape) (states : ℕ → Block) (r : Register) (task : Task) (due : Due)
    → first (cases shape states r task) ≡ Some due → IsOfTask r task due
task-is shape states r (Acquire acquire) due h = serve-is shape (states r.own) r acquire (states r.own).home due h
task-is shape states r (Replace acquire block) due h =
    let s = states block in
    let e = away-first (probe_victim shape r block s s.home) (await_probes shape s) (give_up block s.home) await_put (serve shape r acquire (states r.own)) refl in
    replaced r acquire block due (away-is shape s r block s.home due (sym e ∙ h))
task-is shape states r Evict due h = evicted r due (away-is shape (states r.own) r r.own (states r.own).home due h)

-- an action of a register's task is of the register
due-of : (r : Register) (due : Due) → IsOfTask r r.task due → IsOf r due
due-of r (Probe c block cap) h = h
due-of r (Grant c) h = h
due-of r Get h = h
due-of r (Put block) h = h
due-of r (Drop block) h = h

-- what a register does next is of the register
pub every-action-is-of-its-register : EveryActionIsOfItsRegister
every-action-is-of-its-register shape states r due h = due-of r due (task-is shape states r r.task due h)
