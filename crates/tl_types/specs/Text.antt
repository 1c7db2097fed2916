-- How kinds and their parameters print.
use Rattle.std.specs.Prelude.{ℕ, List, ◌++◌, codes}
use Rattle.tl_types.specs.declared.permission.ProbeCap.{ProbeCap}
use Rattle.tl_types.specs.declared.permission.ProbeCap.TheVariants.{ToB, ToN}
use Rattle.tl_types.specs.declared.permission.GrantCap.{GrantCap}
use Rattle.tl_types.specs.declared.permission.GrantCap.TheVariants.{ToT as g_ToT, ToB as g_ToB}
use Rattle.tl_types.specs.declared.permission.Grow.{Grow}
use Rattle.tl_types.specs.declared.permission.Grow.TheVariants.{NtoB, NtoT, BtoT}
use Rattle.tl_types.specs.declared.permission.Prune.{Prune}
use Rattle.tl_types.specs.declared.permission.Prune.TheVariants.{TtoB, TtoN, BtoN}
use Rattle.tl_types.specs.declared.permission.DirtyPrune.{DirtyPrune}
use Rattle.tl_types.specs.declared.permission.DirtyPrune.TheVariants.{TtoB as d_TtoB, TtoN as d_TtoN}
use Rattle.tl_types.specs.declared.permission.ProbeReport.{ProbeReport}
use Rattle.tl_types.specs.declared.permission.ProbeReport.TheVariants.{TtoB as a_TtoB, TtoN as a_TtoN, BtoB as a_BtoB, BtoN as a_BtoN, NtoN as a_NtoN}
use Rattle.tl_types.specs.declared.kind.Kind.{Kind}
use Rattle.tl_types.specs.declared.kind.Kind.TheVariants.{PutFullData, Get, AcquireBlock, ProbeBlock, ProbeAck, ProbeAckData, Release, ReleaseData, AccessAck, AccessAckData, Grant, GrantData, ReleaseAck, GrantAck}

-- how the parameter of an AcquireBlock prints
abbrev pub grow_text : Grow → List ℕ
grow_text NtoB = codes "NtoB"
grow_text NtoT = codes "NtoT"
grow_text BtoT = codes "BtoT"

-- how the parameter of a Release prints
abbrev pub prune_text : Prune → List ℕ
prune_text TtoB = codes "TtoB"
prune_text TtoN = codes "TtoN"
prune_text BtoN = codes "BtoN"

-- how the parameter of a ProbeAckData or a ReleaseData prints
abbrev pub dirty_prune_text : DirtyPrune → List ℕ
dirty_prune_text d_TtoB = codes "TtoB"
dirty_prune_text d_TtoN = codes "TtoN"

-- how the parameter of a ProbeAck prints
abbrev pub probe_report_text : ProbeReport → List ℕ
probe_report_text a_TtoB = codes "TtoB"
probe_report_text a_TtoN = codes "TtoN"
probe_report_text a_BtoB = codes "BtoB"
probe_report_text a_BtoN = codes "BtoN"
probe_report_text a_NtoN = codes "NtoN"

-- how the parameter of a ProbeBlock prints
abbrev pub probe_cap_text : ProbeCap → List ℕ
probe_cap_text ToB = codes "toB"
probe_cap_text ToN = codes "toN"

-- how the parameter of a Grant or a GrantData prints
abbrev pub grant_cap_text : GrantCap → List ℕ
grant_cap_text g_ToT = codes "toT"
grant_cap_text g_ToB = codes "toB"

-- a kind's name, then its parameter's where it has one
abbrev pub kind_text : Kind → List ℕ
kind_text PutFullData = codes "PutFullData"
kind_text Get = codes "Get"
kind_text (AcquireBlock grow) = codes "AcquireBlock " ++ grow_text grow
kind_text (ProbeBlock cap) = codes "ProbeBlock " ++ probe_cap_text cap
kind_text (ProbeAck report) = codes "ProbeAck " ++ probe_report_text report
kind_text (ProbeAckData prune) = codes "ProbeAckData " ++ dirty_prune_text prune
kind_text (Release prune) = codes "Release " ++ prune_text prune
kind_text (ReleaseData prune) = codes "ReleaseData " ++ dirty_prune_text prune
kind_text AccessAck = codes "AccessAck"
kind_text AccessAckData = codes "AccessAckData"
kind_text (Grant cap) = codes "Grant " ++ grant_cap_text cap
kind_text (GrantData cap) = codes "GrantData " ++ grant_cap_text cap
kind_text ReleaseAck = codes "ReleaseAck"
kind_text GrantAck = codes "GrantAck"
