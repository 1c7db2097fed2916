-- Which permissions the messages of an Acquire and of a Probe lead to (TileLink 1.8, section 9; that a sole reader is granted Tip is
-- this project's own).
use Rattle.std.specs.Prelude.{◌≡◌, ℕ, List, Option, if◌then◌else◌}
use Rattle.tl_types.specs.Message.{answer_report, probe_answer}
use Rattle.tl_types.specs.Parameters.{grow_to, probe_cap, report_of}
use Rattle.tl_types.specs.Permission.{grant_perm}
use Rattle.tl_types.specs.declared.permission.Perm.{Perm}
use Rattle.tl_types.specs.declared.permission.Perm.TheVariants.{Tip}
use Rattle.tl_types.specs.declared.permission.ProbeCap.{ProbeCap}
use Rattle.tl_protocol.specs.Protocol.{Block, granted, is_alone}
use Rattle.tl_protocol.specs.declared.home.Accepted.{Accepted}
use Rattle.tl_protocol.specs.declared.shape.Shape.{Shape}

-- the answer to a Probe reports what the table of reports says of the copy's permission and the Probe's cap
abbrev pub EveryAnswerIsItsReport : Type 0
EveryAnswerIsItsReport =
    (perm : Perm) (cap : ProbeCap) (bytes : Option (List ℕ))
    → answer_report (probe_answer perm cap bytes) ≡ report_of perm (probe_cap cap)

-- a Grant gives the permission that the Acquire's grow value ends with, and Tip where home records None for each other client
abbrev pub EveryGrantEndsItsGrow : Type 0
EveryGrantEndsItsGrow =
    (shape : Shape) (s : Block) (acquire : Accepted)
    → grant_perm (granted shape s acquire)
    ≡ (if is_alone shape.clients acquire.client s.client then Tip else grow_to acquire.grow)
