-- The register's rule: what a register does next, the first of eight cases (this project's own).
use Rattle.std.specs.Prelude.{ℕ, List, [], ◌∷◌, ◌++◌, Option, Some, None, if◌then◌else◌}
use Rattle.tl_types.specs.Lowest.{lowest}
use Rattle.tl_types.specs.declared.permission.Grow.{Grow}
use Rattle.tl_types.specs.declared.permission.Grow.TheVariants.{NtoB, NtoT, BtoT}
use Rattle.tl_types.specs.declared.permission.ProbeCap.{ProbeCap}
use Rattle.tl_types.specs.declared.permission.ProbeCap.TheVariants.{ToB, ToN}
use Rattle.tl_protocol.specs.declared.home.Accepted.{Accepted}
use Rattle.tl_protocol.specs.declared.home.Line.{Line}
use Rattle.tl_protocol.specs.declared.shape.Shape.{Shape}
use Rattle.tl_protocol.specs.Protocol.{Block}
use Rattle.tl_registers.specs.declared.due.Due.{Due}
use Rattle.tl_registers.specs.declared.due.Due.TheVariants.{Probe, Grant, Get, Put, Drop}
use Rattle.tl_registers.specs.declared.register.Register.{Register}
use Rattle.tl_registers.specs.declared.register.Task.{Task}
use Rattle.tl_registers.specs.declared.register.Task.TheVariants.{Acquire, Replace, Evict}
use Rattle.tl_registers.specs.Pending.{probe_pending, grant_pending, is_quiet}
use Rattle.tl_registers.specs.Register.{must_probe}

-- What a case says: it does not apply, or the register waits, or it acts.
pub data ActionCase : Type 0 where
  passes : ActionCase
  waits : ActionCase
  acts : Due → ActionCase

-- what the first case says that applies; None where the register waits
abbrev pub first : List ActionCase → Option Due
first [] = None
first (passes ∷ rest) = first rest
first (waits ∷ rest) = None
first (acts due ∷ rest) = Some due

-- a Probe to a client, where there is one to probe
abbrev pub probes : ℕ → ProbeCap → Option ℕ → ActionCase
probes block cap None = passes
probes block cap (Some c) = acts (Probe c block cap)

-- ## The victim leaves home

-- 1. Home holds the victim, and a client recorded above None in it is not yet probed: a Probe toN to the lowest.
abbrev pub probe_victim : Shape → Register → ℕ → Block → Option Line → ActionCase
probe_victim shape r victim s None = passes
probe_victim shape r victim s (Some line) = probes victim ToN (lowest (must_probe r s None ToN) shape.clients)

-- 2. and 7. A Probe of the block is pending: wait. It is until its answer is taken; a Release taken meanwhile does not end it.
abbrev pub await_probes : Shape → Block → ActionCase
await_probes shape s = if probe_pending shape s then waits else passes

-- 3. Home holds the victim: it is written back where home's copy is dirty, else dropped.
abbrev pub give_up : ℕ → Option Line → ActionCase
give_up victim None = passes
give_up victim (Some line) = acts (if line.dirty then Put victim else Drop victim)

-- 4. The victim's Put is not yet acknowledged: wait.
abbrev pub await_put : ActionCase
await_put = waits

-- the cases of a victim that leaves home, in their order
abbrev pub away : Shape → Register → ℕ → Block → List ActionCase
away shape r victim s =
    probe_victim shape r victim s s.home ∷ await_probes shape s ∷ give_up victim s.home ∷ await_put ∷ []

-- ## The own block is served

-- what the Probes before a Grant leave at most: NtoB probes as for a grant toB, whatever is granted in the end
abbrev pub probes_before : Grow → ProbeCap
probes_before NtoB = ToB
probes_before NtoT = ToN
probes_before BtoT = ToN

-- 5. Home lacks the own block: a Get, once, and then wait for the data.
abbrev pub fetch : Block → Option Line → ActionCase
fetch s None = if is_quiet s.outward then acts Get else waits
fetch s (Some line) = passes

-- 6. Another client has more than the Grant leaves room for, and is not yet probed: a Probe to the lowest.
abbrev pub probe_others : Shape → Register → Accepted → Block → ActionCase
probe_others shape r acquire s =
    probes r.own (probes_before acquire.grow)
    (lowest (must_probe r s (Some acquire.client) (probes_before acquire.grow)) shape.clients)

-- 8. The Grant, once, and then wait for its GrantAck.
abbrev pub grant : Shape → Accepted → Block → ActionCase
grant shape acquire s = if grant_pending shape s then waits else acts (Grant acquire.client)

-- the cases of an own block that is served, in their order
abbrev pub serve : Shape → Register → Accepted → Block → List ActionCase
serve shape r acquire s =
    fetch s s.home ∷ probe_others shape r acquire s ∷ await_probes shape s ∷ grant shape acquire s ∷ []

-- ## The rule

-- the cases of a register, in their order: an evict register serves nobody
abbrev pub cases : Shape → (ℕ → Block) → Register → Task → List ActionCase
cases shape states r (Acquire acquire) = serve shape r acquire (states r.own)
cases shape states r (Replace acquire victim) =
    away shape r victim (states victim) ++ serve shape r acquire (states r.own)
cases shape states r Evict = away shape r r.own (states r.own)

-- what a register does next; None where it waits
abbrev pub next_due : Shape → (ℕ → Block) → Register → Option Due
next_due shape states r = first (cases shape states r r.task)
