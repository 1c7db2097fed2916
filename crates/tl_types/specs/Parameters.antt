-- What the parameters of messages say beside the rules of permissions (TileLink 1.8, section 9, "Permissions transitions").
use Rattle.tl_types.specs.declared.permission.Perm.{Perm}
use Rattle.tl_types.specs.declared.permission.Perm.TheVariants.{None, Branch, Tip}
use Rattle.tl_types.specs.declared.permission.Cap.{Cap}
use Rattle.tl_types.specs.declared.permission.Cap.TheVariants.{ToT, ToB, ToN}
use Rattle.tl_types.specs.declared.permission.ProbeCap.{ProbeCap}
use Rattle.tl_types.specs.declared.permission.ProbeCap.TheVariants.{ToB as p_ToB, ToN as p_ToN}
use Rattle.tl_types.specs.declared.permission.GrantCap.{GrantCap}
use Rattle.tl_types.specs.declared.permission.GrantCap.TheVariants.{ToT as g_ToT, ToB as g_ToB}
use Rattle.tl_types.specs.declared.permission.Grow.{Grow}
use Rattle.tl_types.specs.declared.permission.Grow.TheVariants.{NtoB, NtoT, BtoT}
use Rattle.tl_types.specs.declared.permission.Prune.{Prune}
use Rattle.tl_types.specs.declared.permission.Prune.TheVariants.{TtoB, TtoN}
use Rattle.tl_types.specs.declared.permission.DirtyPrune.{DirtyPrune}
use Rattle.tl_types.specs.declared.permission.DirtyPrune.TheVariants.{TtoB as d_TtoB, TtoN as d_TtoN}
use Rattle.tl_types.specs.declared.permission.Report.{Report}
use Rattle.tl_types.specs.declared.permission.Report.TheVariants.{TtoT, TtoB as r_TtoB, TtoN as r_TtoN, BtoB, BtoN as r_BtoN, NtoN}
use Rattle.tl_types.specs.declared.permission.ProbeReport.{ProbeReport}
use Rattle.tl_types.specs.declared.permission.ProbeReport.TheVariants.{TtoB as a_TtoB, TtoN as a_TtoN, BtoB as a_BtoB, BtoN as a_BtoN, NtoN as a_NtoN}

-- the permission that a bound names
abbrev pub cap_perm : Cap → Perm
cap_perm ToT = Tip
cap_perm ToB = Branch
cap_perm ToN = None

-- the cap of a Probe as a bound
abbrev pub probe_cap : ProbeCap → Cap
probe_cap p_ToB = ToB
probe_cap p_ToN = ToN

-- the cap of a Grant as a bound
abbrev pub grant_cap : GrantCap → Cap
grant_cap g_ToT = ToT
grant_cap g_ToB = ToB

-- the permission that an Acquire asks for
abbrev pub grow_to : Grow → Perm
grow_to NtoB = Branch
grow_to NtoT = Tip
grow_to BtoT = Tip

-- a prune value that starts from Tip, among all prune values
abbrev pub dirty_prune : DirtyPrune → Prune
dirty_prune d_TtoB = TtoB
dirty_prune d_TtoN = TtoN

-- the permission that a report starts from
abbrev pub report_from : Report → Perm
report_from TtoT = Tip
report_from r_TtoB = Tip
report_from r_TtoN = Tip
report_from BtoB = Branch
report_from r_BtoN = Branch
report_from NtoN = None

-- the report of a ProbeAck, among all reports
abbrev pub probe_report : ProbeReport → Report
probe_report a_TtoB = r_TtoB
probe_report a_TtoN = r_TtoN
probe_report a_BtoB = BtoB
probe_report a_BtoN = r_BtoN
probe_report a_NtoN = NtoN

-- what a copy with a permission reports of a bound
abbrev pub report_of : Perm → Cap → Report
report_of Tip ToT = TtoT
report_of Tip ToB = r_TtoB
report_of Tip ToN = r_TtoN
report_of Branch ToT = BtoB
report_of Branch ToB = BtoB
report_of Branch ToN = r_BtoN
report_of None cap = NtoN
