-- How a message that is shown differs from the one that is sent (the names are TileLink's, 1.8, section 9).
use Rattle.std.specs.Prelude.{◌≡◌, ◌≢◌, Option, Some, None, IsSome}
use Rattle.tl_types.specs.Bodies.{body_kind, body_bytes}
use Rattle.tl_types.specs.declared.kind.Kind.{Kind}
use Rattle.tl_types.specs.declared.kind.Kind.TheVariants as kind
use Rattle.tl_types.specs.declared.message.Body.{Body}
use Rattle.tl_types.specs.declared.permission.DirtyPrune.TheVariants as dirty
use Rattle.tl_types.specs.declared.permission.ProbeReport.TheVariants as report
use Rattle.tl_types.specs.declared.permission.Prune.TheVariants as prune
use Rattle.tl_protocol_lanes.specs.Lanes.{Post}
use Rattle.tlcheck_rules.specs.declared.difference.Difference.{Difference}
use Rattle.tlcheck_rules.specs.declared.difference.Difference.TheVariants.{NothingIsSent, OtherMessage, OtherParam, DataIsMissing, DataIsExtra, OtherBytes}
use Rattle.tlcheck_rules.specs.declared.difference.Name.{Name}
use Rattle.tlcheck_rules.specs.declared.difference.Name.TheVariants as name
use Rattle.tlcheck_rules.specs.declared.entry.Shown.{Shown}

-- the name of a message, whether it has data or not
abbrev pub name_of : Kind → Name
name_of kind.PutFullData = name.PutFullData
name_of kind.Get = name.Get
name_of (kind.AcquireBlock grow) = name.AcquireBlock
name_of (kind.ProbeBlock cap) = name.ProbeBlock
name_of (kind.ProbeAck report) = name.ProbeAck
name_of (kind.ProbeAckData prune) = name.ProbeAck
name_of (kind.Release prune) = name.Release
name_of (kind.ReleaseData prune) = name.Release
name_of kind.AccessAck = name.AccessAck
name_of kind.AccessAckData = name.AccessAck
name_of (kind.Grant cap) = name.Grant
name_of (kind.GrantData cap) = name.Grant
name_of kind.ReleaseAck = name.ReleaseAck
name_of kind.GrantAck = name.GrantAck

-- the kind with its parameter that has no data
abbrev pub bare_of : Kind → Kind
bare_of (kind.ProbeAckData dirty.TtoB) = kind.ProbeAck report.TtoB
bare_of (kind.ProbeAckData dirty.TtoN) = kind.ProbeAck report.TtoN
bare_of (kind.ReleaseData dirty.TtoB) = kind.Release prune.TtoB
bare_of (kind.ReleaseData dirty.TtoN) = kind.Release prune.TtoN
bare_of (kind.GrantData cap) = kind.Grant cap
bare_of kind.AccessAckData = kind.AccessAck
bare_of k = k

-- what is shown is a message
abbrev pub IsMessage : Body → Shown → Type 0
IsMessage body shown = (body_kind body ≡ shown.kind) × (body_bytes body ≡ shown.bytes)

-- What is shown differs so from a message: in its name; else in its parameter; else it is shown without its data, or with data that it
-- has not; else with other bytes.
abbrev pub DiffersFrom : Body → Shown → Difference → Type 0
DiffersFrom body shown NothingIsSent = ⊥
DiffersFrom body shown (OtherMessage sent) = (sent ≡ body_kind body) × (name_of sent ≢ name_of shown.kind)
DiffersFrom body shown (OtherParam sent) =
    (sent ≡ body_kind body) × (name_of sent ≡ name_of shown.kind) × (bare_of sent ≢ bare_of shown.kind)
DiffersFrom body shown (DataIsMissing sent) =
    (sent ≡ body_kind body) × (bare_of sent ≡ bare_of shown.kind)
    × IsSome (body_bytes body) × (¬ ((sent ≡ shown.kind) × IsSome shown.bytes))
DiffersFrom body shown (DataIsExtra sent) =
    (sent ≡ body_kind body) × (bare_of sent ≡ bare_of shown.kind)
    × (body_bytes body ≡ None) × (¬ ((sent ≡ shown.kind) × (shown.bytes ≡ None)))
DiffersFrom body shown (OtherBytes sent seen) =
    (body_kind body ≡ shown.kind) × (body_bytes body ≡ Some sent) × (shown.bytes ≡ Some seen) × (sent ≢ seen)

-- what is shown differs so from what is sent, if something is
abbrev pub DiffersFromSent : Option Post → Shown → Difference → Type 0
DiffersFromSent None shown d = d ≡ NothingIsSent
DiffersFromSent (Some post) shown d = DiffersFrom post.body shown d

-- what is shown, if something is, differs so from what is sent
abbrev pub Differs : Option Post → Option Shown → Difference → Type 0
Differs post None d = ⊥
Differs post (Some shown) d = DiffersFromSent post shown d
