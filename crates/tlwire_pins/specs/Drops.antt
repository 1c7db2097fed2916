-- Clean copies that a client gives up without a word (this project's own; the Release that such a drop stands for is that of
-- TileLink 1.8, section 9).
use Rattle.std.specs.Prelude.{◌≡◌, ◌⊎◌, ℕ, Bool, true, false, List, [], ◌∷◌, Option, Some, None}
use Rattle.tl_types.specs.Permission.{grow_from, prune_to}
use Rattle.tl_types.specs.declared.kind.Kind.{Kind}
use Rattle.tl_types.specs.declared.kind.Kind.TheVariants as kind
use Rattle.tl_types.specs.declared.permission.Perm.TheVariants.{None as p_None}
use Rattle.tl_types.specs.declared.permission.ProbeReport.TheVariants.{NtoN}
use Rattle.tl_types.specs.declared.permission.Prune.{Prune}
use Rattle.tl_protocol.specs.Protocol.{is_none}
use Rattle.tlwire_search.specs.declared.seen.Seen.{Seen}
use Rattle.tlwire_search.specs.declared.seen.Seen.TheVariants.{OnLink, OnMemory, Load, Store}

-- a client that sends such a message has nothing of the block: it asks from None, or answers a Probe by NtoN
abbrev pub has_nothing : Kind → Bool
has_nothing (kind.AcquireBlock grow) = is_none (grow_from grow)
has_nothing (kind.ProbeAck NtoN) = true
has_nothing k = false

-- a line shows that its client has nothing of the block
abbrev pub shows_nothing : Seen → Bool
shows_nothing (OnLink c block message) = has_nothing message.kind
shows_nothing (OnMemory block message) = false
shows_nothing (Load c address bytes) = false
shows_nothing (Store c address bytes) = false

-- the Release of a clean copy, and the ReleaseAck that answers it
abbrev pub release_line : ℕ → ℕ → Prune → Seen
release_line c block prune = OnLink c block (record { kind = kind.Release prune; bytes = None })

abbrev pub release_ack_line : ℕ → ℕ → Seen
release_ack_line c block = OnLink c block (record { kind = kind.ReleaseAck; bytes = None })

-- just before a line its client gave up all of a clean copy: it is one of those that drop, and the line shows that it has nothing
abbrev pub IsBehindDrop : (ℕ → Bool) → Prune → Seen → Type 0
IsBehindDrop drops prune (OnLink c block message) = (drops c ≡ true) × (prune_to prune ≡ p_None) × (has_nothing message.kind ≡ true)
IsBehindDrop drops prune (OnMemory block message) = ⊥
IsBehindDrop drops prune (Load c address bytes) = ⊥
IsBehindDrop drops prune (Store c address bytes) = ⊥

-- a line with the Release and the ReleaseAck before it that nobody saw
abbrev pub behind_drop : Prune → Seen → List Seen → List Seen
behind_drop prune (OnLink c block message) rest =
    release_line c block prune ∷ release_ack_line c block ∷ OnLink c block message ∷ rest
behind_drop prune x rest = x ∷ rest

-- A record in full: what was seen, with the Releases of clean copies and the ReleaseAcks that nobody saw, where some clients drop such
-- copies. Each stands just before the line that shows that its client has nothing of the block.
abbrev pub IsInFull : (ℕ → Bool) → List Seen → List Seen → Type 0
IsInFull drops [] full = full ≡ []
IsInFull drops (x ∷ seen) full =
    (rest : List Seen) × IsInFull drops seen rest
    × ((full ≡ x ∷ rest) ⊎ ((prune : Prune) × IsBehindDrop drops prune x × (full ≡ behind_drop prune x rest)))

-- what stands for a line, with the Release of a clean copy before it or not. No public clause cites it.
abbrev pub told_behind : Option Prune → Seen → List Seen
told_behind None x = x ∷ []
told_behind (Some prune) x = behind_drop prune x []
