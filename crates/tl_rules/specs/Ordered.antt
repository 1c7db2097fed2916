-- The accesses of several banks in one order, as those of one memory (this project's own theorem).
use Rattle.std.specs.Prelude.{◌≡◌, ◌<◌, ◌⊎◌, ℕ, List, [], ◌∷◌, ◌++◌, length, slice_index_or, All, AllPairs, IsPermutation}
use Rattle.tl_protocol.specs.declared.event.Access.{Access}
use Rattle.tl_protocol.specs.declared.event.Event.{Event}
use Rattle.tl_protocol.specs.declared.shape.Shape.{Shape}
use Rattle.tl_protocol.specs.Coherent.{LoadsLast}
use Rattle.tl_protocol.specs.OneMemory.{accesses}
use Rattle.tl_protocol.specs.Protocol.{block_of}
use Rattle.tl_protocol.specs.Runs.{IsRun}
use Rattle.tl_protocol.specs.Merges.{IsMergeOf}
use Rattle.tl_rules.specs.Certified.{accesses_of, all_accesses, IsCertified}

-- the log of a bank, empty where there is no such bank
abbrev pub log_at : List (List Event) → ℕ → List Event
log_at logs bank = slice_index_or logs bank []

-- the one has the lower stamp, or the same stamp and the lower client
abbrev pub ComesBefore : Access → Access → Type 0
ComesBefore a b = (a.stamp < b.stamp) ⊎ ((a.stamp ≡ b.stamp) × (a.client < b.client))

-- of two accesses of one client, the second has the greater index
abbrev pub IndexRises : Access → Access → Type 0
IndexRises a b = a.client ≡ b.client → a.index < b.index

-- These are the accesses of all logs, each once, in the order of stamp and then of client, and in it each client's indexes rise.
pub record IsOrderOf (logs : List (List Event)) (ordered : List Access) : Type 0 where
  pub all : IsPermutation (all_accesses logs) ordered
  pub rising : AllPairs ComesBefore ordered
  pub indexes : AllPairs IndexRises ordered

-- Certified logs have such an order.
abbrev pub EveryCertifiedHasOneOrder : Type 0
EveryCertifiedHasOneOrder =
    (logs : List (List Event)) → IsCertified logs → (ordered : List Access) × IsOrderOf logs ordered

-- ## One memory

-- the events of all logs, one log after the other
abbrev pub joined : List (List Event) → List Event
joined [] = []
joined (log ∷ logs) = log ++ joined logs

-- These are the loads and stores of all the banks' logs, each once, in the order of stamp and then of client: of each bank they are
-- those of its log, as they stand there.
pub record AreInOrder (shape : Shape) (bank_of : ℕ → ℕ) (logs : List (List Event)) (ordered : List Event) : Type 0 where
  pub all : IsPermutation (accesses (joined logs)) ordered
  pub rising : AllPairs ComesBefore (accesses_of ordered)
  pub merge : IsMergeOf shape bank_of (λ bank. accesses (log_at logs bank)) ordered

-- The log of each bank is a run, on the bank's blocks.
abbrev pub AreRuns : Shape → List ℕ → (ℕ → ℕ) → List (List Event) → Type 0
AreRuns shape image bank_of logs =
    (bank : ℕ) → bank < length logs
    → IsRun shape image (log_at logs bank) × All (λ e. bank_of (block_of shape e) ≡ bank) (log_at logs bank)

-- Where runs of banks are certified, their accesses in order of stamp and then of client are one memory's, and each client's have
-- rising indexes.
abbrev pub EveryCertifiedOrderIsOneMemory : Type 0
EveryCertifiedOrderIsOneMemory =
    (shape : Shape) (image : List ℕ) (bank_of : ℕ → ℕ) (logs : List (List Event))
    → IsCertified logs → AreRuns shape image bank_of logs
    → (ordered : List Event)
    × AreInOrder shape bank_of logs ordered × AllPairs IndexRises (accesses_of ordered) × LoadsLast image ordered
