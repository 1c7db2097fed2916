-- The kinds of messages and the bytes that they carry, for their codes and their text (TileLink 1.8, section 9).
use Rattle.std.specs.Prelude.{ℕ, Bool, true, false, List, Option, Some, None}
use Rattle.tl_types.specs.Permission.{prune_from}
use Rattle.tl_types.specs.Parameters.{report_from}
use Rattle.tl_types.specs.declared.permission.Perm.{Perm}
use Rattle.tl_types.specs.declared.permission.Prune.TheVariants.{TtoB, TtoN, BtoN}
use Rattle.tl_types.specs.declared.permission.DirtyPrune.TheVariants.{TtoB as d_TtoB, TtoN as d_TtoN}
use Rattle.tl_types.specs.declared.permission.ProbeReport.TheVariants.{TtoB as p_TtoB, TtoN as p_TtoN, BtoB as p_BtoB, BtoN as p_BtoN, NtoN as p_NtoN}
use Rattle.tl_types.specs.declared.message.ProbeAnswer.{ProbeAnswer}
use Rattle.tl_types.specs.declared.message.ProbeAnswer.TheVariants.{TtoB as a_TtoB, TtoN as a_TtoN, BtoB as a_BtoB, BtoN as a_BtoN, NtoN as a_NtoN}
use Rattle.tl_types.specs.declared.message.Surrender.{Surrender}
use Rattle.tl_types.specs.declared.message.Surrender.TheVariants.{TtoB as s_TtoB, TtoN as s_TtoN, BtoN as s_BtoN}
use Rattle.tl_types.specs.declared.message.Upward.{Upward}
use Rattle.tl_types.specs.declared.message.Upward.TheVariants.{ProbeAck, Release}
use Rattle.tl_types.specs.declared.message.Downward.{Downward}
use Rattle.tl_types.specs.declared.message.Downward.TheVariants.{Grant, ReleaseAck}
use Rattle.tl_types.specs.declared.message.Body.{Body}
use Rattle.tl_types.specs.declared.message.Body.TheVariants.{AcquireBlock, ProbeBlock, Upward as b_Upward, Downward as b_Downward, GrantAck}
use Rattle.tl_types.specs.declared.kind.Kind.{Kind}
use Rattle.tl_types.specs.declared.kind.Kind.TheVariants as kind
use Rattle.tl_types.specs.Message.{answer_report, surrender_prune, surrender, upward_bytes, is_grant}

-- a message of the kind carries a block's bytes
abbrev pub has_data : Kind → Bool
has_data kind.PutFullData = true
has_data kind.Get = false
has_data (kind.AcquireBlock grow) = false
has_data (kind.ProbeBlock cap) = false
has_data (kind.ProbeAck report) = false
has_data (kind.ProbeAckData prune) = true
has_data (kind.Release prune) = false
has_data (kind.ReleaseData prune) = true
has_data kind.AccessAck = false
has_data kind.AccessAckData = true
has_data (kind.Grant cap) = false
has_data (kind.GrantData cap) = true
has_data kind.ReleaseAck = false
has_data kind.GrantAck = false

-- the kind of an answer: ProbeAckData where bytes go along, else ProbeAck
abbrev pub answer_kind : ProbeAnswer → Kind
answer_kind (a_TtoB None) = kind.ProbeAck p_TtoB
answer_kind (a_TtoB (Some bytes)) = kind.ProbeAckData d_TtoB
answer_kind (a_TtoN None) = kind.ProbeAck p_TtoN
answer_kind (a_TtoN (Some bytes)) = kind.ProbeAckData d_TtoN
answer_kind a_BtoB = kind.ProbeAck p_BtoB
answer_kind a_BtoN = kind.ProbeAck p_BtoN
answer_kind a_NtoN = kind.ProbeAck p_NtoN

-- the kind of a Release: ReleaseData where bytes go along, else Release
abbrev pub surrender_kind : Surrender → Kind
surrender_kind (s_TtoB None) = kind.Release TtoB
surrender_kind (s_TtoB (Some bytes)) = kind.ReleaseData d_TtoB
surrender_kind (s_TtoN None) = kind.Release TtoN
surrender_kind (s_TtoN (Some bytes)) = kind.ReleaseData d_TtoN
surrender_kind s_BtoN = kind.Release BtoN

-- the permission that a message on C starts from
abbrev pub upward_from : Upward → Perm
upward_from (ProbeAck answer) = report_from (answer_report answer)
upward_from (Release surrender) = prune_from (surrender_prune surrender)

-- the kind of a message on C
abbrev pub upward_kind : Upward → Kind
upward_kind (ProbeAck answer) = answer_kind answer
upward_kind (Release surrender) = surrender_kind surrender

-- the bytes that a message on D carries, if any
abbrev pub downward_bytes : Downward → Option (List ℕ)
downward_bytes (Grant cap bytes) = bytes
downward_bytes ReleaseAck = None

-- the kind of a message on D: a Grant with bytes is a GrantData
abbrev pub downward_kind : Downward → Kind
downward_kind (Grant cap None) = kind.Grant cap
downward_kind (Grant cap (Some bytes)) = kind.GrantData cap
downward_kind ReleaseAck = kind.ReleaseAck

-- the message is a Grant
abbrev pub is_a_grant : Body → Bool
is_a_grant (AcquireBlock grow) = false
is_a_grant (ProbeBlock cap) = false
is_a_grant (b_Upward message) = false
is_a_grant (b_Downward message) = is_grant message
is_a_grant GrantAck = false

-- the bytes that a message carries, if any
abbrev pub body_bytes : Body → Option (List ℕ)
body_bytes (AcquireBlock grow) = None
body_bytes (ProbeBlock cap) = None
body_bytes (b_Upward message) = upward_bytes message
body_bytes (b_Downward message) = downward_bytes message
body_bytes GrantAck = None

-- the kind of a message
abbrev pub body_kind : Body → Kind
body_kind (AcquireBlock grow) = kind.AcquireBlock grow
body_kind (ProbeBlock cap) = kind.ProbeBlock cap
body_kind (b_Upward message) = upward_kind message
body_kind (b_Downward message) = downward_kind message
body_kind GrantAck = kind.GrantAck
