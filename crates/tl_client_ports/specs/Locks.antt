-- The banks behind their locks (this project's own).
use Rattle.std.specs.Prelude.{ℕ, List, map}
use Rattle.tl_map.specs.Numbers.{Numbers}
use Rattle.tl_bank_spec.specs.View.{View}

-- what contracts see of the banks behind their locks: the geometry, and the number beside each lock, in order
pub record Locks : Type 0 where
  pub geometry : Numbers
  pub numbers : List ℕ

-- the numbers of some banks, in order
abbrev pub numbers_of : List View → List ℕ
numbers_of banks = map (λ (v : View). v.number) banks
