-- The marks by which a bank mostly tells that no register works on a block (this project's own).
use Rattle.std.specs.Prelude.{◌≡◌, ℕ, ◌%◌, true, List}
use Rattle.std.specs.Int.{bit_at}
use Rattle.tl_registers.specs.declared.register.Register.{Register}
use Rattle.tl_registers.specs.Registers.{is_busy}

-- of each block that a register works on, the bit is set that the last six bits of its number name
abbrev pub IsMarked : List Register → ℕ → Type 0
IsMarked registers marks = (block : ℕ) → is_busy block registers ≡ true → bit_at marks (block % 64) ≡ 1
