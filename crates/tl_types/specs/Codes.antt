-- The codes of messages: the channel, the opcode and the parameter of each kind.
-- The numbers are this project's profile of TileLink 1.8, section 6.
use Rattle.std.specs.Prelude.{◌≡◌, ℕ}
use Rattle.tl_types.specs.declared.channel.Channel.{Channel}
use Rattle.tl_types.specs.declared.channel.Channel.TheVariants.{A, B, C, D, E}
use Rattle.tl_types.specs.declared.permission.ProbeCap.{ProbeCap}
use Rattle.tl_types.specs.declared.permission.ProbeCap.TheVariants.{ToB, ToN}
use Rattle.tl_types.specs.declared.permission.GrantCap.{GrantCap}
use Rattle.tl_types.specs.declared.permission.GrantCap.TheVariants.{ToT as g_ToT, ToB as g_ToB}
use Rattle.tl_types.specs.declared.permission.Grow.{Grow}
use Rattle.tl_types.specs.declared.permission.Grow.TheVariants.{NtoB, NtoT, BtoT}
use Rattle.tl_types.specs.declared.permission.Prune.{Prune}
use Rattle.tl_types.specs.declared.permission.Prune.TheVariants.{TtoB, TtoN, BtoN}
use Rattle.tl_types.specs.declared.permission.DirtyPrune.{DirtyPrune}
use Rattle.tl_types.specs.declared.permission.DirtyPrune.TheVariants.{TtoB as d_TtoB, TtoN as d_TtoN}
use Rattle.tl_types.specs.declared.permission.ProbeReport.{ProbeReport}
use Rattle.tl_types.specs.declared.permission.ProbeReport.TheVariants.{TtoB as a_TtoB, TtoN as a_TtoN, BtoB as a_BtoB, BtoN as a_BtoN, NtoN as a_NtoN}
use Rattle.tl_types.specs.declared.kind.Kind.{Kind}
use Rattle.tl_types.specs.declared.kind.Kind.TheVariants.{PutFullData, Get, AcquireBlock, ProbeBlock, ProbeAck, ProbeAckData, Release, ReleaseData, AccessAck, AccessAckData, Grant, GrantData, ReleaseAck, GrantAck}

-- the parameter of an AcquireBlock
abbrev pub grow_param : Grow → ℕ
grow_param NtoB = 0
grow_param NtoT = 1
grow_param BtoT = 2

-- the parameter of a ProbeBlock
abbrev pub probe_param : ProbeCap → ℕ
probe_param ToB = 1
probe_param ToN = 2

-- the parameter of a Grant or a GrantData
abbrev pub grant_param : GrantCap → ℕ
grant_param g_ToT = 0
grant_param g_ToB = 1

-- the parameter of a Release
abbrev pub prune_param : Prune → ℕ
prune_param TtoB = 0
prune_param TtoN = 1
prune_param BtoN = 2

-- the parameter of a ProbeAckData or a ReleaseData
abbrev pub dirty_param : DirtyPrune → ℕ
dirty_param d_TtoB = 0
dirty_param d_TtoN = 1

-- the parameter of a ProbeAck
abbrev pub report_param : ProbeReport → ℕ
report_param a_TtoB = 0
report_param a_TtoN = 1
report_param a_BtoN = 2
report_param a_BtoB = 4
report_param a_NtoN = 5

-- the channel that a kind travels on
abbrev pub channel_of : Kind → Channel
channel_of PutFullData = A
channel_of Get = A
channel_of (AcquireBlock grow) = A
channel_of (ProbeBlock cap) = B
channel_of (ProbeAck report) = C
channel_of (ProbeAckData prune) = C
channel_of (Release prune) = C
channel_of (ReleaseData prune) = C
channel_of AccessAck = D
channel_of AccessAckData = D
channel_of (Grant cap) = D
channel_of (GrantData cap) = D
channel_of ReleaseAck = D
channel_of GrantAck = E

-- a kind's opcode and parameter
abbrev pub code_of : Kind → ℕ × ℕ
code_of PutFullData = (0, 0)
code_of Get = (4, 0)
code_of (AcquireBlock grow) = (6, grow_param grow)
code_of (ProbeBlock cap) = (6, probe_param cap)
code_of (ProbeAck report) = (4, report_param report)
code_of (ProbeAckData prune) = (5, dirty_param prune)
code_of (Release prune) = (6, prune_param prune)
code_of (ReleaseData prune) = (7, dirty_param prune)
code_of AccessAck = (0, 0)
code_of AccessAckData = (1, 0)
code_of (Grant cap) = (4, grant_param cap)
code_of (GrantData cap) = (5, grant_param cap)
code_of ReleaseAck = (6, 0)
code_of GrantAck = (0, 0)

-- a kind travels on this channel with this opcode and this parameter
abbrev pub HasCode : Kind → Channel → ℕ → ℕ → Type 0
HasCode kind channel opcode param = (channel_of kind ≡ channel) × (code_of kind ≡ (opcode, param))
