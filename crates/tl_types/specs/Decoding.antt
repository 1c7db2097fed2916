-- The table of codes read backward, as `decode` goes through it: the kind that a channel, an opcode and a parameter stand for.
-- `decode` is stated by the table itself.
use Rattle.std.specs.Prelude.{◌==◌, ℕ, Option, Some, None, if◌then◌else◌}
use Rattle.std.specs.Option.{option_map}
use Rattle.tl_types.specs.declared.channel.Channel.{Channel}
use Rattle.tl_types.specs.declared.channel.Channel.TheVariants.{A, B, C, D, E}
use Rattle.tl_types.specs.declared.permission.ProbeCap.{ProbeCap}
use Rattle.tl_types.specs.declared.permission.ProbeCap.TheVariants.{ToB, ToN}
use Rattle.tl_types.specs.declared.permission.GrantCap.{GrantCap}
use Rattle.tl_types.specs.declared.permission.GrantCap.TheVariants.{ToT as g_ToT, ToB as g_ToB}
use Rattle.tl_types.specs.declared.permission.Grow.{Grow}
use Rattle.tl_types.specs.declared.permission.Grow.TheVariants.{NtoB, NtoT, BtoT}
use Rattle.tl_types.specs.declared.permission.Prune.{Prune}
use Rattle.tl_types.specs.declared.permission.Prune.TheVariants.{TtoB, TtoN, BtoN}
use Rattle.tl_types.specs.declared.permission.DirtyPrune.{DirtyPrune}
use Rattle.tl_types.specs.declared.permission.DirtyPrune.TheVariants.{TtoB as d_TtoB, TtoN as d_TtoN}
use Rattle.tl_types.specs.declared.permission.ProbeReport.{ProbeReport}
use Rattle.tl_types.specs.declared.permission.ProbeReport.TheVariants.{TtoB as a_TtoB, TtoN as a_TtoN, BtoB as a_BtoB, BtoN as a_BtoN, NtoN as a_NtoN}
use Rattle.tl_types.specs.declared.kind.Kind.{Kind}
use Rattle.tl_types.specs.declared.kind.Kind.TheVariants.{PutFullData, Get, AcquireBlock, ProbeBlock, ProbeAck, ProbeAckData, Release, ReleaseData, AccessAck, AccessAckData, Grant, GrantData, ReleaseAck, GrantAck}

-- a kind without a parameter has 0 in its place
abbrev pub plain_at : ℕ → Kind → Option Kind
plain_at param kind = if param == 0 then Some kind else None

-- what the parameter of an AcquireBlock stands for, if anything
abbrev pub grow_at : ℕ → Option Grow
grow_at n = if n == 0 then Some NtoB else if n == 1 then Some NtoT else if n == 2 then Some BtoT else None

-- what the parameter of a ProbeBlock stands for, if anything
abbrev pub probe_at : ℕ → Option ProbeCap
probe_at n = if n == 1 then Some ToB else if n == 2 then Some ToN else None

-- what the parameter of a Grant or a GrantData stands for, if anything
abbrev pub grant_at : ℕ → Option GrantCap
grant_at n = if n == 0 then Some g_ToT else if n == 1 then Some g_ToB else None

-- what the parameter of a Release stands for, if anything
abbrev pub prune_at : ℕ → Option Prune
prune_at n = if n == 0 then Some TtoB else if n == 1 then Some TtoN else if n == 2 then Some BtoN else None

-- what the parameter of a ProbeAckData or a ReleaseData stands for, if anything
abbrev pub dirty_at : ℕ → Option DirtyPrune
dirty_at n = if n == 0 then Some d_TtoB else if n == 1 then Some d_TtoN else None

-- what the parameter of a ProbeAck stands for, if anything
abbrev pub report_at : ℕ → Option ProbeReport
report_at n =
    if n == 0 then Some a_TtoB
    else if n == 1 then Some a_TtoN
    else if n == 2 then Some a_BtoN
    else if n == 4 then Some a_BtoB
    else if n == 5 then Some a_NtoN
    else None

-- the kind on channel A that an opcode and a parameter stand for, if any
abbrev pub kind_on_a : ℕ → ℕ → Option Kind
kind_on_a opcode param =
    if opcode == 0 then plain_at param PutFullData
    else if opcode == 4 then plain_at param Get
    else if opcode == 6 then option_map AcquireBlock (grow_at param)
    else None

-- the kind on channel B that an opcode and a parameter stand for, if any
abbrev pub kind_on_b : ℕ → ℕ → Option Kind
kind_on_b opcode param = if opcode == 6 then option_map ProbeBlock (probe_at param) else None

-- the kind on channel C that an opcode and a parameter stand for, if any
abbrev pub kind_on_c : ℕ → ℕ → Option Kind
kind_on_c opcode param =
    if opcode == 4 then option_map ProbeAck (report_at param)
    else if opcode == 5 then option_map ProbeAckData (dirty_at param)
    else if opcode == 6 then option_map Release (prune_at param)
    else if opcode == 7 then option_map ReleaseData (dirty_at param)
    else None

-- the kind on channel D that an opcode and a parameter stand for, if any
abbrev pub kind_on_d : ℕ → ℕ → Option Kind
kind_on_d opcode param =
    if opcode == 0 then plain_at param AccessAck
    else if opcode == 1 then plain_at param AccessAckData
    else if opcode == 4 then option_map Grant (grant_at param)
    else if opcode == 5 then option_map GrantData (grant_at param)
    else if opcode == 6 then plain_at param ReleaseAck
    else None

-- the kind on channel E that an opcode and a parameter stand for, if any
abbrev pub kind_on_e : ℕ → ℕ → Option Kind
kind_on_e opcode param = if opcode == 0 then plain_at param GrantAck else None

-- the table of codes: the kind that a channel, an opcode and a parameter stand for, if any
unfoldable pub kind_at : Channel → ℕ → ℕ → Option Kind
kind_at A = kind_on_a
kind_at B = kind_on_b
kind_at C = kind_on_c
kind_at D = kind_on_d
kind_at E = kind_on_e
