-- A miss register, and whom it has still to probe (this project's own).
use Rattle.std.specs.Prelude.{ℕ, ◌<◌, ◌==◌, ◌&&◌, ◌||◌, not, nat_lt, Bool, true, false, Option, Some, None, slice_index_or, slice_set, replicate}
use Rattle.tl_types.specs.Permission.{rank, probe_perm}
use Rattle.tl_types.specs.declared.permission.Perm.{Perm}
use Rattle.tl_types.specs.declared.permission.ProbeCap.{ProbeCap}
use Rattle.tl_protocol.specs.declared.home.Accepted.{Accepted}
use Rattle.tl_protocol.specs.Protocol.{Block}
use Rattle.tl_registers.specs.declared.register.Task.{Task}
use Rattle.tl_registers.specs.declared.register.Task.TheVariants.{Acquire, Replace, Evict}
use Rattle.tl_registers.specs.declared.register.Register.{Register}
use Rattle.tl_registers.specs.declared.way_of_set.WayOfSet.{WayOfSet}
use Rattle.tl_types.specs.declared.limits.TheConstants.{CLIENTS}

-- a register that has probed nobody yet
abbrev pub opened : ℕ → WayOfSet → Task → Register
opened own way task = record { own = own; way = way; task = task; probed = replicate CLIENTS false }

-- what a register is open for that serves an Acquire, where its way has a victim or none
abbrev pub acquire_task : Accepted → Option ℕ → Task
acquire_task acquire None = Acquire acquire
acquire_task acquire (Some victim) = Replace acquire victim

-- ## What it works on

-- the block that leaves home by a task: the victim of a replacement, the own block of an evict task, else none
abbrev pub victim_in : ℕ → Task → Option ℕ
victim_in own (Acquire acquire) = None
victim_in own (Replace acquire victim) = Some victim
victim_in own Evict = Some own

-- the block on its way out of home, where there is one: an evict register treats its own block so
abbrev pub victim_of : Register → Option ℕ
victim_of r = victim_in r.own r.task

-- there is a block, and it is this one
abbrev pub is_block : ℕ → Option ℕ → Bool
is_block block None = false
is_block block (Some b) = b == block

-- the block is its own block or its victim
abbrev pub works_on : Register → ℕ → Bool
works_on r block = (r.own == block) || is_block block (victim_of r)

-- the number, where there is one, is below n
abbrev pub IsBelow : ℕ → Option ℕ → Type 0
IsBelow n None = Unit {0}
IsBelow n (Some x) = x < n

-- its blocks are blocks of the memory
abbrev pub IsKnown : ℕ → Register → Type 0
IsKnown blocks r = (r.own < blocks) × IsBelow blocks (victim_of r)

-- ## Whom it has still to probe

-- the register has probed the client
abbrev pub has_probed : Register → ℕ → Bool
has_probed r c = slice_index_or r.probed c false

-- a client joins those that it has probed
abbrev pub with_probed : Register → ℕ → Register
with_probed r c = record r { probed = slice_set r.probed c true }

-- a permission is more than a Probe leaves
abbrev pub is_above : Perm → ProbeCap → Bool
is_above perm cap = nat_lt (rank (probe_perm cap)) (rank perm)

-- the client is not the one that asks; where nobody asks, each is another
abbrev pub is_other : Option ℕ → ℕ → Bool
is_other None c = true
is_other (Some asking) c = not (c == asking)

-- a client, other than the one that asks, has more than the cap by home's record, and the register has not probed it yet
abbrev pub must_probe : Register → Block → Option ℕ → ProbeCap → ℕ → Bool
must_probe r s asking cap c =
    is_other asking c && (is_above (s.client c).recorded cap && not (has_probed r c))
