-- What is left of several logs once some events of each were taken: what loops keep. No public clause cites these.
use Rattle.std.specs.Prelude.{◌≡◌, ◌<◌, ◌≤◌, ◌⊎◌, ℕ, List, [], ◌∷◌, drop, length, slice_index, slice_index_or, All, Option, Some, None, nat_le, if◌then◌else◌}
use Rattle.tl_protocol.specs.declared.event.Access.{Access}
use Rattle.tl_protocol.specs.declared.event.Event.{Event}
use Rattle.tl_rules.specs.declared.merge.Mark.{Mark}
use Rattle.tl_rules.specs.declared.merge.Next.{Next}
use Rattle.tl_protocol.specs.OneMemory.{access_of}
use Rattle.tl_rules.specs.Certified.{all_accesses}

-- each element and each later one are so related, as a loop meets them
abbrev pub Pairwise : {X : Type 0} → (X → X → Type 0) → List X → Type 0
Pairwise R [] = Unit {0}
Pairwise R (x ∷ xs) = All (R x) xs × Pairwise R xs

-- the events of each log from its cursor on
abbrev pub left : List (List Event) → List ℕ → List (List Event)
left [] cursors = []
left (log ∷ logs) [] = log ∷ left logs []
left (log ∷ logs) (cursor ∷ cursors) = drop cursor log ∷ left logs cursors

-- the stamp of an access, 0 where there is none
abbrev pub stamp_in : Option Access → ℕ
stamp_in None = 0
stamp_in (Some access) = access.stamp

-- the event at a log's cursor has the least stamp of what is left
abbrev pub IsNext : List (List Event) → List ℕ → ℕ → Type 0
IsNext logs cursors place =
    (place < length logs)
    × (slice_index cursors place < length (slice_index_or logs place []))
    × ((e : Event) → e ≡ slice_index_or (slice_index_or logs place []) (slice_index cursors place) e
    → All (λ (b : Access). stamp_in (access_of e) ≤ b.stamp) (all_accesses (left logs cursors)))

-- the one of two with the lower stamp
abbrev pub earlier : Option Next → Next → Option Next
earlier None other = Some other
earlier (Some next) other = if nat_le next.stamp other.stamp then Some next else Some other

-- ## Two accesses of one client

-- the one has the lower stamp and the lower index
abbrev pub IsBefore : Access → Access → Type 0
IsBefore a b = (a.stamp < b.stamp) × (a.index < b.index)

-- of one client, the one is before the other
abbrev pub AreOrdered : Access → Access → Type 0
AreOrdered a b = a.client ≡ b.client → IsBefore a b ⊎ IsBefore b a

-- an access follows what was taken last of its client
abbrev pub FollowsMark : Option Mark → Access → Type 0
FollowsMark None a = Unit {0}
FollowsMark (Some m) a = (m.stamp < a.stamp) × (m.index < a.index)
