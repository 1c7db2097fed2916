-- What the loops over logs and commands keep. No public clause cites these.
use Rattle.std.specs.Prelude.{◌≡◌, ◌≢◌, ◌<◌, ◌≤◌, ◌+◌, ◌==◌, ◌∷◌, slice_index, slice_index_or, slice_set, slice_get, ℕ, true, List, [], Option, Some, None, Vec, count_by, map}
use Rattle.std.specs.declared.alloc.Global.{Global}
use Rattle.tl_protocol.specs.declared.event.Access.{Access}
use Rattle.tl_protocol.specs.declared.event.Event.{Event}
use Rattle.tl_text.specs.declared.report.Answered.{Answered}
use Rattle.tl_script_words.specs.declared.command.Command.{Command}
use Rattle.tl_runner_report.specs.Carried.{makes_access, EachHasCommand, AreAsMany}

-- the commands of all lines, by client and index
abbrev pub commands_on : List (Vec Answered Global) → List (List Command)
commands_on all = map (λ (lines : Vec Answered Global). map (λ (line : Answered). line.command) lines.items) all

-- the bytes of all lines, by client and index
abbrev pub bytes_on : List (Vec Answered Global) → List (List (List ℕ))
bytes_on all = map (λ (lines : Vec Answered Global). map (λ (line : Answered). line.bytes) lines.items) all

-- bytes by client and index, once those of an access stand at its client and index
abbrev pub with_access : List (List (List ℕ)) → Access → List (List (List ℕ))
with_access bytes a = slice_set bytes a.client (slice_set (slice_index_or bytes a.client []) a.index a.bytes)

-- the same of an event: one that is no access changes nothing
abbrev pub with_event : List (List (List ℕ)) → Option Access → List (List (List ℕ))
with_event bytes None = bytes
with_event bytes (Some a) = with_access bytes a

-- bytes by client and index, once those of each of some accesses stand at its client and index
abbrev pub with_accesses : List (List (List ℕ)) → List Access → List (List (List ℕ))
with_accesses bytes [] = bytes
with_accesses bytes (a ∷ rest) = with_accesses (with_access bytes a) rest

-- how many accesses among some are a client's
abbrev pub count_of : ℕ → List Access → ℕ
count_of client accesses = count_by (λ (a : Access). a.client == client) accesses

-- each client owes as many accesses less as are its own among some
abbrev pub AreCounted : List ℕ → List ℕ → List Access → Type 0
AreCounted before after accesses = (client : ℕ) → slice_index after client + count_of client accesses ≡ slice_index before client

-- none of the first n clients has more accesses among some than it owes
abbrev pub AreOwed : ℕ → List ℕ → List Access → Type 0
AreOwed n owed accesses = (client : ℕ) → client < n → count_of client accesses ≤ slice_index owed client

-- an access is one that its client owes; another event says nothing
abbrev pub IsOwed : List ℕ → Option Access → Type 0
IsOwed owed None = Unit {0}
IsOwed owed (Some a) = 0 < slice_index owed a.client

-- the accesses of some logs carry out their commands, and each client has as many as loads and stores
abbrev pub AreCarriedOut : List (List Command) → List (List Event) → Type 0
AreCarriedOut commands logs = EachHasCommand commands logs × AreAsMany commands logs

-- two accesses of one client have different indexes
abbrev pub AreDistinct : Access → Access → Type 0
AreDistinct a b = a.client ≡ b.client → a.index ≢ b.index

-- an access of a client has a load or a store of its commands at its index
abbrev pub IsAtAccess : List Command → ℕ → Access → Type 0
IsAtAccess commands client a =
    a.client ≡ client → (command : Command) × (slice_get commands a.index ≡ Some command) × (makes_access command ≡ true)
