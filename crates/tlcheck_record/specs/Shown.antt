-- The words of a message that was seen to be sent (the names are TileLink's, the format is this project's own).
use Rattle.std.specs.Prelude.{ℕ, List, [], ◌∷◌, codes, bytes_eq, Option, Some, None, Result, Ok, Err, if◌then◌else◌}
use Rattle.tl_types.specs.declared.kind.Kind.{Kind}
use Rattle.tl_types.specs.declared.kind.Kind.TheVariants as kind
use Rattle.tl_types.specs.declared.permission.DirtyPrune.{DirtyPrune}
use Rattle.tl_types.specs.declared.permission.DirtyPrune.TheVariants as dirty
use Rattle.tl_types.specs.declared.permission.GrantCap.{GrantCap}
use Rattle.tl_types.specs.declared.permission.GrantCap.TheVariants as grant
use Rattle.tl_types.specs.declared.permission.ProbeCap.{ProbeCap}
use Rattle.tl_types.specs.declared.permission.ProbeCap.TheVariants as probe
use Rattle.tl_types.specs.declared.permission.ProbeReport.{ProbeReport}
use Rattle.tl_types.specs.declared.permission.ProbeReport.TheVariants as report
use Rattle.tlcheck_rules.specs.declared.entry.Shown.{Shown}
use Rattle.tlcheck_record.specs.Cause.{◌>>=◌}
use Rattle.tlcheck_record.specs.Words.{block_bytes_in, grow_in, prune_in}
use Rattle.tlcheck_record.specs.declared.cause.Cause.{Cause}
use Rattle.tlcheck_record.specs.declared.cause.Cause.TheVariants as cause

-- what a Probe asks for: `toB` or `toN`
unfoldable pub probe_cap_of : List ℕ → Result ProbeCap Cause
probe_cap_of text =
    if bytes_eq text (codes "toB") then Ok probe.ToB
    else if bytes_eq text (codes "toN") then Ok probe.ToN
    else Err cause.Param

-- what a Grant gives: `toT` or `toB`
unfoldable pub grant_cap_of : List ℕ → Result GrantCap Cause
grant_cap_of text =
    if bytes_eq text (codes "toT") then Ok grant.ToT
    else if bytes_eq text (codes "toB") then Ok grant.ToB
    else Err cause.Param

-- what a message with data gives up: `TtoB` or `TtoN`
unfoldable pub dirty_of : List ℕ → Result DirtyPrune Cause
dirty_of text =
    if bytes_eq text (codes "TtoB") then Ok dirty.TtoB
    else if bytes_eq text (codes "TtoN") then Ok dirty.TtoN
    else Err cause.Param

-- what an answer without data reports
unfoldable pub report_of : List ℕ → Result ProbeReport Cause
report_of text =
    if bytes_eq text (codes "TtoB") then Ok report.TtoB
    else if bytes_eq text (codes "TtoN") then Ok report.TtoN
    else if bytes_eq text (codes "BtoB") then Ok report.BtoB
    else if bytes_eq text (codes "BtoN") then Ok report.BtoN
    else if bytes_eq text (codes "NtoN") then Ok report.NtoN
    else Err cause.Param

-- a kind of one word
unfoldable pub bare_kind : List ℕ → Result Kind Cause
bare_kind name =
    if bytes_eq name (codes "ReleaseAck") then Ok kind.ReleaseAck
    else if bytes_eq name (codes "GrantAck") then Ok kind.GrantAck
    else Err cause.Shown

-- a kind with its parameter, of a message without data
unfoldable pub plain_kind : List ℕ → List ℕ → Result Kind Cause
plain_kind name param =
    if bytes_eq name (codes "AcquireBlock") then grow_in param >>= (λ p. Ok (kind.AcquireBlock p))
    else if bytes_eq name (codes "ProbeBlock") then probe_cap_of param >>= (λ p. Ok (kind.ProbeBlock p))
    else if bytes_eq name (codes "ProbeAck") then report_of param >>= (λ p. Ok (kind.ProbeAck p))
    else if bytes_eq name (codes "Release") then prune_in param >>= (λ p. Ok (kind.Release p))
    else if bytes_eq name (codes "Grant") then grant_cap_of param >>= (λ p. Ok (kind.Grant p))
    else Err cause.Shown

-- a kind with its parameter, of a message with data
unfoldable pub data_kind : List ℕ → List ℕ → Result Kind Cause
data_kind name param =
    if bytes_eq name (codes "ProbeAckData") then dirty_of param >>= (λ p. Ok (kind.ProbeAckData p))
    else if bytes_eq name (codes "ReleaseData") then dirty_of param >>= (λ p. Ok (kind.ReleaseData p))
    else if bytes_eq name (codes "GrantData") then grant_cap_of param >>= (λ p. Ok (kind.GrantData p))
    else Err cause.Shown

-- a message, with its bytes where it carries some
abbrev pub a_message : Kind → Option (List ℕ) → Result (Option Shown) Cause
a_message k bytes = Ok (Some (record { kind = k; bytes = bytes }))

-- what is shown: nothing, or `KIND`, `KIND PARAM`, `KIND PARAM HEX`
unfoldable pub shown_of : List (List ℕ) → Result (Option Shown) Cause
shown_of [] = Ok None
shown_of (name ∷ []) = bare_kind name >>= (λ k. a_message k None)
shown_of (name ∷ param ∷ []) = plain_kind name param >>= (λ k. a_message k None)
shown_of (name ∷ param ∷ data_text ∷ []) =
    data_kind name param >>= (λ k. block_bytes_in data_text >>= (λ bytes. a_message k (Some bytes)))
shown_of _ = Err cause.MoreWords
