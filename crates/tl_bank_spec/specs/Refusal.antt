-- The refusals of a bank (this project's own): their numbers, and which of several comes first.
use Rattle.std.specs.Prelude.{◌≡◌, ℕ, Bool, List, [], ◌∷◌, Option, Some, None, if◌then◌else◌}
use Rattle.tl_bank_spec.specs.declared.refusal.Refusal.{Refusal}
use Rattle.tl_bank_spec.specs.declared.refusal.Refusal.TheVariants.{NoPermission, Waiting, WrongFrom, NothingThere, NotHead, ReleasePending, NoRegister, BlockBusy, NotYet, OutOfRange, WrongBank, CopiesFull, LinkFull, Memory, ClockFull}

-- the number that a refusal prints as
abbrev pub refusal_number : Refusal → ℕ
refusal_number NoPermission = 1
refusal_number Waiting = 2
refusal_number WrongFrom = 3
refusal_number NothingThere = 4
refusal_number NotHead = 5
refusal_number ReleasePending = 6
refusal_number NoRegister = 7
refusal_number BlockBusy = 8
refusal_number NotYet = 9
refusal_number OutOfRange = 10
refusal_number WrongBank = 11
refusal_number CopiesFull = 12
refusal_number LinkFull = 13
refusal_number Memory = 14
refusal_number ClockFull = 15

-- a refusal where its case holds
abbrev pub Case : Type 0
Case = Bool × Refusal

-- the first refusal whose case holds
abbrev pub first_of : List Case → Option Refusal
first_of [] = None
first_of (x ∷ rest) = if x.0 then Some x.1 else first_of rest

-- the answer of a call that was refused: the first refusal whose case holds, or else want of memory, and then the log had no room
abbrev pub IsRefused : Option Refusal → ℕ → Refusal → Type 0
IsRefused None room answer = (answer ≡ Memory) × (room ≡ 0)
IsRefused (Some refusal) room answer = answer ≡ refusal
