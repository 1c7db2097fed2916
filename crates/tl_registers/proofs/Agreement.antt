-- The open registers and the protocol's state agree after each event that leaves the registers.
use Rattle.std.proofs.Common.{◌≡◌, sym, ℕ, ◌==◌, ◌||◌, eq-eqb, true, false, List, [], ◌∷◌, Option, Some, None, refl, ◌∙◌, inl, inr}
use Rattle.std.specs.List.{AllByRecursion}
use Rattle.std.proofs.Math.Bool.{or-true}
use Rattle.std.proofs.lemmas.Bool.{cases_Bool}
use Rattle.tl_types.specs.declared.permission.ProbeCap.{ProbeCap}
use Rattle.tl_types.specs.declared.permission.ProbeCap.TheVariants.{ToN}
use Rattle.tl_protocol.specs.declared.home.Accepted.{Accepted}
use Rattle.tl_protocol.specs.declared.shape.Shape.{Shape}
use Rattle.tl_protocol.specs.Protocol.{Block, block_of}
use Rattle.tl_protocol.specs.Runs.{after_next}
use Rattle.tl_protocol.proofs.Pending.{every_run_keeps_messages, every_run_keeps_service}
use Rattle.tl_registers.specs.declared.register.Register.{Register}
use Rattle.tl_registers.specs.declared.register.Task.{Task}
use Rattle.tl_registers.specs.declared.register.Task.TheVariants.{Acquire, Replace, Evict}
use Rattle.tl_registers.specs.Agree.{IsAtRest, EventsLeaveRegisters, AgreeAtReset, EveryRunIsSteady}
use Rattle.tl_registers.specs.Fit.{ProbesFit, NobodyIsProbed, Leaves, IsServed, Awaits, TaskFits, Fits}
use Rattle.tl_registers.specs.NextAction.{probes_before}
use Rattle.tl_registers.specs.Register.{has_probed, is_other, works_on, is_block, victim_in}
use Rattle.tl_registers.proofs.Blocks.{Keeps, nothing-keeps, event-keeps}
use Rattle.tl_registers.proofs.Pending.{any_below-none, any_below-false}
use Rattle.tl_registers.specs.Pending.{has_grant_pending, grant_pending}

-- ## One block

-- the Probes of a block that is kept still fit
probes-kept : (shape : Shape) (s later : Block) (r : Register) (asking : Option ℕ) (cap : ProbeCap) → Keeps s later
    → ProbesFit shape s.client r asking cap → ProbesFit shape later.client r asking cap
probes-kept shape s later r asking cap k h = λ x l. (k.probes x).keeps cap (has_probed r x) (is_other asking x) (h x l)

-- where nobody is probed of a block that is kept, nobody is afterwards
nobody-kept : (shape : Shape) (s later : Block) → Keeps s later → NobodyIsProbed shape s.client → NobodyIsProbed shape later.client
nobody-kept shape s later k h = λ x l. (k.probes x).brings_none (h x l)

-- a block that is kept still leaves home
pub leaves-kept : (shape : Shape) (s later : Block) (r : Register) → Keeps s later → Leaves shape s r → Leaves shape later r
leaves-kept shape s later r k h = record {
  probes = probes-kept shape s later r None ToN k h.probes;
  not_accepted = k.accepted ∙ h.not_accepted;
  gone = λ none. nobody-kept shape s later k (h.gone (k.lacks none));
  leaving = λ none. k.passes none (h.leaving (k.lacks none));
  putting = k.putting h.putting;
}

-- a Grant that is pending was before
was-pending : (shape : Shape) (s later : Block) → Keeps s later → grant_pending shape later ≡ true → grant_pending shape s ≡ true
was-pending shape s later k pending =
    elim (cases_Bool (grant_pending shape s)) [
      | inl e ↦ e
      | inr e ↦
          let none : grant_pending shape later ≡ false =
          any_below-none (λ x. has_grant_pending (later.client x)) shape.clients
          (λ x l. (k.probes x).grants_none (any_below-false (λ y. has_grant_pending (s.client y)) shape.clients x e l)) in
          let bad : true ≡ false = sym pending ∙ none in
          cc
    ]

-- a block that is kept is still served
pub served-kept : (shape : Shape) (s later : Block) (r : Register) (acquire : Accepted) → Keeps s later → IsServed shape s r acquire
    → IsServed shape later r acquire
served-kept shape s later r acquire k h = record {
  inside = h.inside;
  accepted = k.accepted ∙ h.accepted;
  probes = probes-kept shape s later r (Some acquire.client) (probes_before acquire.grow) k h.probes;
  getting = k.getting h.getting;
  held = λ pending. let line = h.held (was-pending shape s later k pending) in k.holds line.0 line.1;
}

-- a block that is kept still waits until the victim has left its way
pub awaits-kept : (s later : Block) → Keeps s later → Awaits s → Awaits later
awaits-kept s later k h = record { lacks = k.brings_none h.quiet h.lacks; quiet = k.quiet h.quiet }

-- a block that is kept stays at rest
pub rest-kept : (shape : Shape) (s later : Block) → Keeps s later → IsAtRest shape s → IsAtRest shape later
rest-kept shape s later k h = record {
  not_accepted = k.accepted ∙ h.not_accepted;
  unprobed = nobody-kept shape s later k h.unprobed;
  quiet = k.quiet h.quiet;
}

-- ## All blocks

-- what keeps each block that a register works on
abbrev pub KeepsFor : (ℕ → Block) → (ℕ → Block) → Register → Type 0
KeepsFor states later r = (block : ℕ) → works_on r block ≡ true → Keeps (states block) (later block)

-- a register works on the block, told by the task
abbrev pub WorksOn : Register → Task → ℕ → Type 0
WorksOn r task block = (r.own == block) || is_block block (victim_in r.own task) ≡ true

-- a register works on its own block
pub on-own : (r : Register) (task : Task) → WorksOn r task r.own
on-own r task = rw (eq-eqb r.own r.own refl) refl

-- and on its victim
pub on-victim : (r : Register) (acquire : Accepted) (victim : ℕ) → WorksOn r (Replace acquire victim) victim
on-victim r acquire victim = rw (eq-eqb victim victim refl) (or-true (r.own == victim))

-- a register's task still fits where the blocks that it works on are kept
task-kept : (shape : Shape) (states later : ℕ → Block) (r : Register) (task : Task)
    → ((block : ℕ) → WorksOn r task block → Keeps (states block) (later block))
    → TaskFits shape states r task → TaskFits shape later r task
task-kept shape states later r (Acquire acquire) k h =
    served-kept shape (states r.own) (later r.own) r acquire (k r.own (on-own r (Acquire acquire))) h
task-kept shape states later r (Replace acquire victim) k h =
    let own = k r.own (on-own r (Replace acquire victim)) in (
      served-kept shape (states r.own) (later r.own) r acquire own h.0,
      awaits-kept (states r.own) (later r.own) own h.1,
      leaves-kept shape (states victim) (later victim) r (k victim (on-victim r acquire victim)) h.2,
    )
task-kept shape states later r Evict k h = leaves-kept shape (states r.own) (later r.own) r (k r.own (on-own r Evict)) h

-- a register whose blocks are kept still fits
pub fits-kept : (shape : Shape) (states later : ℕ → Block) (r : Register) → KeepsFor states later r → Fits shape states r
    → Fits shape later r
fits-kept shape states later r k h =
    record { known = h.known; places = h.places; task = task-kept shape states later r r.task k h.task }

-- where every block is kept each register still fits
each-kept : (shape : Shape) (states later : ℕ → Block) (registers : List Register)
    → ((block : ℕ) → Keeps (states block) (later block)) → AllByRecursion (Fits shape states) registers → AllByRecursion (Fits shape later) registers
each-kept shape states later [] k h = tt
each-kept shape states later (r ∷ rest) k h =
    (fits-kept shape states later r (λ block on. k block) h.0, each-kept shape states later rest k h.1)

-- after an event that leaves the registers they still agree with the state
pub events-leave-registers : EventsLeaveRegisters
events-leave-registers shape states registers e leaves steady agree =
    let later : ℕ → Block = after_next shape states e in
    let k : (block : ℕ) → Keeps (states block) (later block) =
    λ block. elim (cases_Bool (block == block_of shape e)) [
      | inl t ↦ rw t (event-keeps shape (states block) e leaves (steady.service block) (steady.orderly block))
      | inr t ↦ rw t (nothing-keeps (states block))
    ] in
    record {
      fits = each-kept shape states later registers k agree.fits;
      at_rest = λ block free. rest-kept shape (states block) (later block) (k block) (agree.at_rest block free);
      apart = agree.apart;
    }

-- at reset, with no register, all agree
pub agree-at-reset : AgreeAtReset
agree-at-reset shape image = record {
  fits = tt;
  at_rest = λ block free. record { not_accepted = refl; unprobed = λ x l. refl; quiet = refl };
  apart = tt;
}

-- a run leaves each block as every run keeps it
pub every-run-is-steady : EveryRunIsSteady
every-run-is-steady shape image events run = record {
  orderly = every_run_keeps_messages shape image events run;
  service = every_run_keeps_service shape image events run;
}
