-- What messages say (TileLink 1.8, section 9): the permissions that they lead from and to, their bytes, and their kinds.
use Rattle.std.specs.Prelude.{ℕ, Bool, true, false, List, Option, None}
use Rattle.tl_types.specs.Permission.{report_to, prune_to}
use Rattle.tl_types.specs.declared.permission.Perm.{Perm}
use Rattle.tl_types.specs.declared.permission.Perm.TheVariants.{None as p_None, Branch, Tip}
use Rattle.tl_types.specs.declared.permission.ProbeCap.{ProbeCap}
use Rattle.tl_types.specs.declared.permission.ProbeCap.TheVariants.{ToB, ToN}
use Rattle.tl_types.specs.declared.permission.Prune.{Prune}
use Rattle.tl_types.specs.declared.permission.Prune.TheVariants.{TtoB, TtoN, BtoN}
use Rattle.tl_types.specs.declared.permission.Report.{Report}
use Rattle.tl_types.specs.declared.permission.Report.TheVariants.{TtoB as r_TtoB, TtoN as r_TtoN, BtoB as r_BtoB, BtoN as r_BtoN, NtoN as r_NtoN}
use Rattle.tl_types.specs.declared.message.ProbeAnswer.{ProbeAnswer}
use Rattle.tl_types.specs.declared.message.ProbeAnswer.TheVariants.{TtoB as a_TtoB, TtoN as a_TtoN, BtoB as a_BtoB, BtoN as a_BtoN, NtoN as a_NtoN}
use Rattle.tl_types.specs.declared.message.Surrender.{Surrender}
use Rattle.tl_types.specs.declared.message.Surrender.TheVariants.{TtoB as s_TtoB, TtoN as s_TtoN, BtoN as s_BtoN}
use Rattle.tl_types.specs.declared.message.Upward.{Upward}
use Rattle.tl_types.specs.declared.message.Upward.TheVariants.{ProbeAck, Release}
use Rattle.tl_types.specs.declared.message.Downward.{Downward}
use Rattle.tl_types.specs.declared.message.Downward.TheVariants.{Grant, ReleaseAck}

-- ## Answers to Probes

-- what an answer reports: the permission that the copy had, and the one that is left
abbrev pub answer_report : ProbeAnswer → Report
answer_report (a_TtoB bytes) = r_TtoB
answer_report (a_TtoN bytes) = r_TtoN
answer_report a_BtoB = r_BtoB
answer_report a_BtoN = r_BtoN
answer_report a_NtoN = r_NtoN

-- the bytes that go along: those of a copy that was dirty
abbrev pub answer_bytes : ProbeAnswer → Option (List ℕ)
answer_bytes (a_TtoB bytes) = bytes
answer_bytes (a_TtoN bytes) = bytes
answer_bytes a_BtoB = None
answer_bytes a_BtoN = None
answer_bytes a_NtoN = None

-- what a copy with a permission answers to a Probe, with the bytes that it gives if it was dirty
abbrev pub probe_answer : Perm → ProbeCap → Option (List ℕ) → ProbeAnswer
probe_answer p_None cap bytes = a_NtoN
probe_answer Branch ToB bytes = a_BtoB
probe_answer Branch ToN bytes = a_BtoN
probe_answer Tip ToB bytes = a_TtoB bytes
probe_answer Tip ToN bytes = a_TtoN bytes

-- ## Releases

-- the permission that a Release starts from, and the one that it leaves
abbrev pub surrender_prune : Surrender → Prune
surrender_prune (s_TtoB bytes) = TtoB
surrender_prune (s_TtoN bytes) = TtoN
surrender_prune s_BtoN = BtoN

-- the bytes that go along, if any: from Branch there are none
abbrev pub surrender_bytes : Surrender → Option (List ℕ)
surrender_bytes (s_TtoB bytes) = bytes
surrender_bytes (s_TtoN bytes) = bytes
surrender_bytes s_BtoN = None

-- what a Release gives up, with the bytes of the copy if it was dirty
abbrev pub surrender : Prune → Option (List ℕ) → Surrender
surrender TtoB bytes = s_TtoB bytes
surrender TtoN bytes = s_TtoN bytes
surrender BtoN bytes = s_BtoN

-- ## Channel C

-- the permission that a message on C leaves
abbrev pub upward_to : Upward → Perm
upward_to (ProbeAck answer) = report_to (answer_report answer)
upward_to (Release surrender) = prune_to (surrender_prune surrender)

-- the bytes that a message on C carries, if any
abbrev pub upward_bytes : Upward → Option (List ℕ)
upward_bytes (ProbeAck answer) = answer_bytes answer
upward_bytes (Release surrender) = surrender_bytes surrender

-- whether a message is an answer to a Probe
abbrev pub is_probe_ack : Upward → Bool
is_probe_ack (ProbeAck answer) = true
is_probe_ack (Release surrender) = false

-- ## Channel D

-- whether a message is a Grant
abbrev pub is_grant : Downward → Bool
is_grant (Grant cap bytes) = true
is_grant ReleaseAck = false
