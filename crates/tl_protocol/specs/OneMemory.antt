-- Loads and stores as those of one memory (this project's own theorems).
use Rattle.std.specs.Prelude.{◌≡◌, ℕ, List, [], ◌∷◌, Bool, true, false, Option, Some, None, if◌then◌else◌}
use Rattle.tl_protocol.specs.declared.event.Access.{Access}
use Rattle.tl_protocol.specs.declared.event.Event.{Event}
use Rattle.tl_protocol.specs.declared.event.Event.TheVariants.{Load, Store}
use Rattle.tl_protocol.specs.declared.shape.Shape.{Shape}
use Rattle.tl_protocol.specs.Coherent.{LoadsLast}
use Rattle.tl_protocol.specs.Runs.{IsRun}
use Rattle.tl_protocol.specs.Merges.{on_bank}

-- the access that an event is, if it is a load or a store
abbrev pub access_of : Event → Option Access
access_of (Load access) = Some access
access_of (Store access) = Some access
access_of e = None

-- whether an event is a load or a store
abbrev pub is_access : Event → Bool
is_access (Load access) = true
is_access (Store access) = true
is_access e = false

-- the loads and stores among some events, in order
abbrev pub accesses : List Event → List Event
accesses [] = []
accesses (e ∷ es) = if is_access e then e ∷ accesses es else accesses es

-- A list that holds, of each bank, the loads and stores of its run, in their order, is one memory's: each load in it got the
-- bytes last stored before it there, whichever way the banks' accesses stand between one another.
abbrev pub EveryMergeIsOneMemory : Type 0
EveryMergeIsOneMemory =
    (shape : Shape) (image : List ℕ) (bank_of : ℕ → ℕ) (logs : ℕ → List Event) (merged : List Event)
    → ((bank : ℕ) → IsRun shape image (logs bank))
    → ((bank : ℕ) → on_bank shape bank_of bank merged ≡ accesses (logs bank)) → LoadsLast image merged
