-- What a bank's open registers and ways are (this project's own).
use Rattle.std.specs.Prelude.{◌≡◌, ℕ, ◌<◌, Option, Some, None, is_none}
use Rattle.tl_map.specs.Places.{set_of}
use Rattle.tl_protocol.specs.declared.home.Accepted.{Accepted}
use Rattle.tl_registers.specs.Registers.{register_of}
use Rattle.tl_registers.specs.declared.register.Register.{Register}
use Rattle.tl_registers.specs.declared.register.Task.{Task}
use Rattle.tl_registers.specs.declared.register.Task.TheVariants.{Acquire, Replace, Evict}
use Rattle.tl_bank_spec.specs.View.{View, end_at}
use Rattle.tl_bank_spec.specs.Own.{IsOwn, way_at}

-- ## The Acquire that home serves

-- the Acquire that a task serves: an evict task serves none
abbrev pub acquire_in : Task → Option Accepted
acquire_in (Acquire acquire) = Some acquire
acquire_in (Replace acquire victim) = Some acquire
acquire_in Evict = None

-- the one that a register was opened for
abbrev pub accepted_by : Option Register → Option Accepted
accepted_by None = None
accepted_by (Some r) = acquire_in r.task

-- home serves of each block the Acquire of the register that is open for it, and else none
abbrev pub ServesByRegisters : View → Type 0
ServesByRegisters v = (block : ℕ) → (end_at v block).accepted ≡ accepted_by (register_of block v.registers)

-- ## Where home's blocks lie

-- A block of the bank lies in one of the ways of its set just where home holds it, and no other block of the set lies there.
pub record LiesAlone (v : View) : Type 0 where
  pub holds : (block : ℕ) → IsOwn v.geometry v.number block → is_none (end_at v block).home ≡ is_none (way_at v block)
  pub inside : (block way : ℕ) → IsOwn v.geometry v.number block → way_at v block ≡ Some way → way < v.geometry.ways
  pub alone :
      (a b way : ℕ) → IsOwn v.geometry v.number a → IsOwn v.geometry v.number b → set_of v.geometry a ≡ set_of v.geometry b
      → way_at v a ≡ Some way → way_at v b ≡ Some way → a ≡ b
