-- The way that takes the memory's bytes. No public clause cites this module.
use Rattle.std.specs.Prelude.{◌≡◌, ℕ, Some}
use Rattle.tl_registers.specs.Registers.{register_of}
use Rattle.tl_registers.specs.declared.register.Register.{Register}
use Rattle.tl_bank_spec.specs.View.{View}

-- a block has a register, which holds this way
abbrev pub RegisterHolds : View → ℕ → ℕ → Type 0
RegisterHolds v block way =
    (register : Register) × (register_of block v.registers ≡ Some register) × (register.way.way ≡ way)
