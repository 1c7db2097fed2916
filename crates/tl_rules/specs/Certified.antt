-- The order of the accesses of several logs: by stamp, and then by client (this project's own).
use Rattle.std.specs.Prelude.{◌≡◌, ◌≢◌, ◌<◌, ◌≤◌, List, [], ◌∷◌, ◌++◌, length, map, drop, All, AllPairs, filter_map}
use Rattle.std.specs.Borrow.{Bor}
use Rattle.tl_protocol.specs.declared.event.Access.{Access}
use Rattle.tl_protocol.specs.declared.event.Event.{Event}
use Rattle.tl_protocol.specs.OneMemory.{access_of}
use Rattle.tl_protocol.specs.LogView.{LogView}
use Rattle.tl_types.specs.declared.limits.TheConstants.{CLIENTS}

-- the accesses among some events, oldest first
abbrev pub accesses_of : List Event → List Access
accesses_of events = filter_map access_of events

-- the accesses of all logs, one log after the other
abbrev pub all_accesses : List (List Event) → List Access
all_accesses [] = []
all_accesses (log ∷ logs) = accesses_of log ++ all_accesses logs

-- the one stamp is below the other
abbrev pub IsEarlier : Access → Access → Type 0
IsEarlier a b = a.stamp < b.stamp

-- two accesses do not have the same stamp and the same client
abbrev pub AreApart : Access → Access → Type 0
AreApart a b = a.stamp ≡ b.stamp → a.client ≢ b.client

-- of two accesses of one client, the one with the lower stamp has the lower index
abbrev pub KeepIndexes : Access → Access → Type 0
KeepIndexes a b =
    a.client ≡ b.client → (a.stamp < b.stamp → a.index < b.index) × (b.stamp < a.stamp → b.index < a.index)

-- The accesses of some logs have one order by stamp and then by client, in which each client's indexes rise: there are
-- at most 8 logs, each client is below `CLIENTS`, the stamps of each log rise strictly, no two accesses have the same
-- stamp and client, and of two accesses of one client the one with the lower stamp has the lower index.
pub record IsCertified (logs : List (List Event)) : Type 0 where
  pub few : length logs ≤ 8
  pub known : All (λ (a : Access). a.client < CLIENTS) (all_accesses logs)
  pub rising : All (λ log. AllPairs IsEarlier (accesses_of log)) logs
  pub apart : AllPairs AreApart (all_accesses logs)
  pub indexes : AllPairs KeepIndexes (all_accesses logs)

-- the events of some logs
abbrev pub events_of : List (Bor (List Event)) → List (List Event)
events_of logs = map (λ log. log.now) logs

-- the events that some logs keep: those that are not forgotten
abbrev pub logs_of : List (Bor LogView) → List (List Event)
logs_of logs = map (λ log. drop log.now.forgotten log.now.events) logs
