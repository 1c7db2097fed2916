-- What each bank shows at the end of a trace (this project's own).
use Rattle.std.specs.Prelude.{◌≡◌, ℕ, zero, suc, Bool, List, [], ◌∷◌, ◌++◌, length, map, Option, Some, None}
use Rattle.tl_protocol.specs.Ledger.{has_copy, is_recorded}
use Rattle.tl_bank_spec.specs.View.{View}
use Rattle.tl_bank_spec.specs.Views.{copy_perm_at, dirty_at, pairs_at, recorded_at}
use Rattle.tl_text.specs.declared.closing.BankClosing.{BankClosing}
use Rattle.tl_text.specs.declared.closing.BlockLine.{BlockLine}
use Rattle.tl_text.specs.declared.closing.Standing.{Standing}
use Rattle.tl_trace.specs.NetworkState.{SharedBankState}

-- ## A block

-- a block's line, without where it lies in memory
pub record LineState : Type 0 where
  pub block : ℕ
  pub dirty : Bool
  pub clients : List Standing

-- what a line says of its block, without where the line lies in memory
abbrev pub line_state : BlockLine → LineState
line_state line = record { block = line.block; dirty = line.dirty; clients = line.clients.items }

-- what home records of the first clients, and what each holds
abbrev pub standings : View → ℕ → ℕ → List Standing
standings v block zero = []
standings v block (suc n) =
    standings v block n ++ record { recorded = recorded_at v n block; held = copy_perm_at v n block } ∷ []

-- the line of a block, where home has a copy of it, clean or dirty
abbrev pub line_if : View → ℕ → Option Bool → List LineState
line_if v block None = []
line_if v block (Some dirty) =
    record { block = block; dirty = dirty; clients = standings v block v.geometry.clients } ∷ []

-- the lines of the first blocks, those of them that the bank has and its home holds
abbrev pub lines_below : View → ℕ → List LineState
lines_below v zero = []
lines_below v (suc n) = lines_below v n ++ line_if v n (dirty_at v n)

-- ## A bank

-- The blocks that home holds by rising number, how many copies the clients hold, how many home has recorded, and how many events
-- there were.
pub record Closes (v : View) (closing : BankClosing) : Type 0 where
  pub blocks : map line_state closing.blocks.items ≡ lines_below v v.geometry.memory_blocks
  pub held : closing.held ≡ pairs_at has_copy v
  pub recorded : closing.recorded ≡ pairs_at is_recorded v
  pub events : closing.events ≡ length v.log

-- each bank's closing, in order
abbrev pub Close : List SharedBankState → List BankClosing → Type 0
Close [] [] = Unit {0}
Close [] (closing ∷ closings) = ⊥
Close (shared_bank ∷ shared_banks) [] = ⊥
Close (shared_bank ∷ shared_banks) (closing ∷ closings) = Closes shared_bank.bank closing × Close shared_banks closings
