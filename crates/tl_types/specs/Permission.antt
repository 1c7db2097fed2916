-- Permissions, and what the parameters of messages say of them (TileLink 1.8, section 9, "Permissions transitions").
use Rattle.std.specs.Prelude.{ℕ}
use Rattle.tl_types.specs.declared.permission.Perm.{Perm}
use Rattle.tl_types.specs.declared.permission.Perm.TheVariants.{None, Branch, Tip}
use Rattle.tl_types.specs.declared.permission.ProbeCap.{ProbeCap}
use Rattle.tl_types.specs.declared.permission.ProbeCap.TheVariants.{ToB as p_ToB, ToN as p_ToN}
use Rattle.tl_types.specs.declared.permission.GrantCap.{GrantCap}
use Rattle.tl_types.specs.declared.permission.GrantCap.TheVariants.{ToT as g_ToT, ToB as g_ToB}
use Rattle.tl_types.specs.declared.permission.Grow.{Grow}
use Rattle.tl_types.specs.declared.permission.Grow.TheVariants.{NtoB, NtoT, BtoT}
use Rattle.tl_types.specs.declared.permission.Prune.{Prune}
use Rattle.tl_types.specs.declared.permission.Prune.TheVariants.{TtoB, TtoN, BtoN}
use Rattle.tl_types.specs.declared.permission.Report.{Report}
use Rattle.tl_types.specs.declared.permission.Report.TheVariants.{TtoT, TtoB as r_TtoB, TtoN as r_TtoN, BtoB, BtoN as r_BtoN, NtoN}

-- the rising order of permissions
abbrev pub rank : Perm → ℕ
rank None = 0
rank Branch = 1
rank Tip = 2

-- ## Bounds

-- what a Probe leaves at most
abbrev pub probe_perm : ProbeCap → Perm
probe_perm p_ToB = Branch
probe_perm p_ToN = None

-- what a Grant gives
abbrev pub grant_perm : GrantCap → Perm
grant_perm g_ToT = Tip
grant_perm g_ToB = Branch

-- ## From which permission to which

-- the permission that an Acquire starts from
abbrev pub grow_from : Grow → Perm
grow_from NtoB = None
grow_from NtoT = None
grow_from BtoT = Branch

-- the permission that a Release starts from
abbrev pub prune_from : Prune → Perm
prune_from TtoB = Tip
prune_from TtoN = Tip
prune_from BtoN = Branch

-- the permission that a Release leaves
abbrev pub prune_to : Prune → Perm
prune_to TtoB = Branch
prune_to TtoN = None
prune_to BtoN = None

-- the permission that a report leaves
abbrev pub report_to : Report → Perm
report_to TtoT = Tip
report_to r_TtoB = Branch
report_to r_TtoN = None
report_to BtoB = Branch
report_to r_BtoN = None
report_to NtoN = None
