-- The open registers of a bank (this project's own).
use Rattle.std.specs.Prelude.{ℕ, ◌==◌, ◌&&◌, not, Bool, true, false, List, map, filter, find, Option, Some, None, if◌then◌else◌}
use Rattle.std.specs.List.{list_any}
use Rattle.tl_protocol.specs.Protocol.{Block}
use Rattle.tl_protocol.specs.declared.shape.Shape.{Shape}
use Rattle.tl_registers.specs.declared.due.Due.{Due}
use Rattle.tl_registers.specs.declared.register.Register.{Register}
use Rattle.tl_registers.specs.declared.register.Task.{Task}
use Rattle.tl_registers.specs.declared.register.Task.TheVariants.{Acquire, Replace, Evict}
use Rattle.tl_registers.specs.declared.way_of_set.WayOfSet.{WayOfSet}
use Rattle.tl_registers.specs.NextAction.{next_due}
use Rattle.tl_registers.specs.Register.{works_on, with_probed}

-- The open registers, oldest first, and how many there may be.
pub record RegisterTable : Type 0 where
  pub limit : ℕ
  pub open_registers : List Register

-- the register whose own block it is
abbrev pub register_of : ℕ → List Register → Option Register
register_of block registers = find (λ r. r.own == block) registers

-- the block is the own block or the victim of an open register
abbrev pub is_busy : ℕ → List Register → Bool
is_busy block registers = list_any (λ r. works_on r block) registers

-- a register holds the way
abbrev pub is_held : WayOfSet → List Register → Bool
is_held way registers = list_any (λ r. (r.way.set == way.set) && (r.way.way == way.way)) registers

-- the ways of a set that registers hold, by the age of the registers
abbrev pub held_in : ℕ → List Register → List ℕ
held_in set registers = map (λ r. r.way.way) (filter (λ r. r.way.set == set) registers)

-- what the register of a block does next; None where it waits, and where there is none
abbrev pub due_of : Shape → (ℕ → Block) → Option Register → Option Due
due_of shape states None = None
due_of shape states (Some r) = next_due shape states r

-- ## What sending changes

-- a client joins those that the register has probed, where its own block is this one
abbrev pub with_probe_of : ℕ → ℕ → Register → Register
with_probe_of block c r = if r.own == block then with_probed r c else r

-- the block's register has sent a Probe to a client
abbrev pub noted : ℕ → ℕ → List Register → List Register
noted block c registers = map (with_probe_of block c) registers

-- the block's register is gone
abbrev pub closed : ℕ → List Register → List Register
closed block registers = filter (λ r. not (r.own == block)) registers

-- the task is to send the own block away
abbrev pub is_evict : Task → Bool
is_evict (Acquire acquire) = false
is_evict (Replace acquire victim) = false
is_evict Evict = true

-- the task once a victim is gone: a replacement of it becomes a plain Acquire, and any other task stays
abbrev pub task_without : ℕ → Task → Task
task_without victim (Acquire acquire) = Acquire acquire
task_without victim (Replace acquire v) = if v == victim then Acquire acquire else Replace acquire v
task_without victim Evict = Evict

-- a register that goes on without a victim
abbrev pub without_victim : ℕ → Register → Register
without_victim victim r = record r { task = task_without victim r.task }

-- a register that evicts the block is gone
abbrev pub without_evict : ℕ → List Register → List Register
without_evict block registers = filter (λ r. not (is_evict r.task && (r.own == block))) registers

-- a victim is gone: an evict register of it closes, and an acquire register goes on without it
abbrev pub ended : ℕ → List Register → List Register
ended victim registers = map (without_victim victim) (without_evict victim registers)
