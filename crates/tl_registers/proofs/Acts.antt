-- A register acts where nothing of its blocks is under way.
use Rattle.std.proofs.Common.{◌≡◌, ◌≢◌, ℕ, Bool, true, false, List, [], ◌∷◌, Option, Some, None, if◌then◌else◌, refl, ap}
use Rattle.tl_types.specs.Lowest.{lowest}
use Rattle.tl_types.specs.declared.permission.ProbeCap.{ProbeCap}
use Rattle.tl_types.specs.declared.permission.ProbeCap.TheVariants.{ToN}
use Rattle.tl_protocol.specs.Protocol.{Block}
use Rattle.tl_protocol.specs.declared.home.Accepted.{Accepted}
use Rattle.tl_protocol.specs.declared.home.Line.{Line}
use Rattle.tl_protocol.specs.declared.shape.Shape.{Shape}
use Rattle.tl_registers.specs.declared.due.Due.TheVariants.{Grant, Get, Put, Drop}
use Rattle.tl_registers.specs.declared.register.Register.{Register}
use Rattle.tl_registers.specs.declared.register.Task.{Task}
use Rattle.tl_registers.specs.declared.register.Task.TheVariants.{Acquire, Replace, Evict}
use Rattle.tl_registers.specs.Acts.{NothingPasses, EveryRegisterActs}
use Rattle.tl_registers.specs.Fit.{Leaves, TaskFits}
use Rattle.tl_registers.specs.NextAction.{ActionCase, passes, waits, acts, first, probes, probe_victim, await_probes, give_up, await_put, probes_before, fetch, probe_others, grant, serve, cases}
use Rattle.tl_registers.specs.Pending.{probe_pending, grant_pending, is_quiet}
use Rattle.tl_registers.specs.Register.{must_probe, victim_in}
use Rattle.tl_registers.proofs.Pending.{probe-none, grant-none}

-- a Probe to somebody is an action, and with nobody to probe the cases go on
probes-on : (block : ℕ) (cap : ProbeCap) (who : Option ℕ) (rest : List ActionCase) → first rest ≢ None
    → first (probes block cap who ∷ rest) ≢ None
probes-on block cap None rest h = h
probes-on block cap (Some c) rest h = λ e. cc

-- with no Probe pending the cases go on
probes-done : (pending : Bool) (rest : List ActionCase) → pending ≡ false → first rest ≢ None
    → first ((if pending then waits else passes) ∷ rest) ≢ None
probes-done true rest is h = cc
probes-done false rest is h = h

-- with no Grant pending the Grant is sent
grant-due : (pending : Bool) (c : ℕ) → pending ≡ false → first ((if pending then waits else acts (Grant c)) ∷ []) ≢ None
grant-due true c is = cc
grant-due false c is = λ e. cc

-- a quiet block that is not at home is fetched
fetch-due : (quiet : Bool) (rest : List ActionCase) → quiet ≡ true → first ((if quiet then acts Get else waits) ∷ rest) ≢ None
fetch-due true rest is = λ e. cc
fetch-due false rest is = cc

-- home gives a block up by one action or another
given-up : (dirty : Bool) (block : ℕ) (rest : List ActionCase) → first (acts (if dirty then Put block else Drop block) ∷ rest) ≢ None
given-up dirty block rest = λ e. cc

-- a block that leaves home, and on which nothing passes, has a next action: it is still there
away-acts : (shape : Shape) (s : Block) (r : Register) (block : ℕ) (home : Option Line) (rest : List ActionCase) → s.home ≡ home
    → Leaves shape s r → NothingPasses shape s
    → first (probe_victim shape r block s home ∷ await_probes shape s ∷ give_up block home ∷ await_put ∷ rest) ≢ None
away-acts shape s r block None rest is leaves none = absurd (leaves.leaving is none.quiet)
away-acts shape s r block (Some line) rest is leaves none =
    probes-on block ToN (lowest (must_probe r s None ToN) shape.clients) (await_probes shape s ∷ give_up block (Some line) ∷ await_put ∷ rest)
    (probes-done (probe_pending shape s) (give_up block (Some line) ∷ await_put ∷ rest) (probe-none shape s none.no_probe)
    (given-up line.dirty block (await_put ∷ rest)))

-- an own block that is served, and on which nothing passes, has a next action
serve-acts : (shape : Shape) (s : Block) (r : Register) (acquire : Accepted) (home : Option Line) → NothingPasses shape s
    → first (fetch s home ∷ probe_others shape r acquire s ∷ await_probes shape s ∷ grant shape acquire s ∷ []) ≢ None
serve-acts shape s r acquire None none =
    fetch-due (is_quiet s.outward) (probe_others shape r acquire s ∷ await_probes shape s ∷ grant shape acquire s ∷ []) (ap is_quiet none.quiet)
serve-acts shape s r acquire (Some line) none =
    let cap = probes_before acquire.grow in
    probes-on r.own cap (lowest (must_probe r s (Some acquire.client) cap) shape.clients) (await_probes shape s ∷ grant shape acquire s ∷ [])
    (probes-done (probe_pending shape s) (grant shape acquire s ∷ []) (probe-none shape s none.no_probe)
    (grant-due (grant_pending shape s) acquire.client (grant-none shape s none.no_grant)))

-- a task that fits has a next action where nothing of its blocks passes
task-acts : (shape : Shape) (states : ℕ → Block) (r : Register) (task : Task) → TaskFits shape states r task
    → NothingPasses shape (states r.own) → ((victim : ℕ) → victim_in r.own task ≡ Some victim → NothingPasses shape (states victim))
    → first (cases shape states r task) ≢ None
task-acts shape states r (Acquire acquire) fits own gone = serve-acts shape (states r.own) r acquire (states r.own).home own
task-acts shape states r (Replace acquire victim) fits own gone =
    away-acts shape (states victim) r victim (states victim).home (serve shape r acquire (states r.own)) refl fits.2 (gone victim refl)
task-acts shape states r Evict fits own gone = away-acts shape (states r.own) r r.own (states r.own).home [] refl fits own

-- a register acts where nothing of its own block and of its victim is under way
pub every-register-acts : EveryRegisterActs
every-register-acts shape states r fits own gone = task-acts shape states r r.task fits.task own gone
