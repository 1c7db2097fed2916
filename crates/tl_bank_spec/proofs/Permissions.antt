-- Which permissions messages lead to.
use Rattle.std.proofs.Common.{◌≡◌, Bool, true, false, if◌then◌else◌, refl}
use Rattle.tl_types.specs.Parameters.{grow_to}
use Rattle.tl_types.specs.Permission.{grant_perm}
use Rattle.tl_types.specs.declared.permission.Grow.{Grow}
use Rattle.tl_types.specs.declared.permission.Grow.TheVariants.{NtoB, NtoT, BtoT}
use Rattle.tl_types.specs.declared.permission.Perm.TheVariants.{None, Branch, Tip}
use Rattle.tl_types.specs.declared.permission.ProbeCap.TheVariants.{ToB, ToN}
use Rattle.tl_protocol.specs.Protocol.{granted_cap, is_alone}
use Rattle.tl_bank_spec.specs.Permissions.{EveryAnswerIsItsReport, EveryGrantEndsItsGrow}

pub every_answer_is_its_report : EveryAnswerIsItsReport
every_answer_is_its_report None ToB bytes = refl
every_answer_is_its_report None ToN bytes = refl
every_answer_is_its_report Branch ToB bytes = refl
every_answer_is_its_report Branch ToN bytes = refl
every_answer_is_its_report Tip ToB bytes = refl
every_answer_is_its_report Tip ToN bytes = refl

-- by the grow value, and whether the client would be alone
ends : (grow : Grow) (alone : Bool) → grant_perm (granted_cap grow alone) ≡ (if alone then Tip else grow_to grow)
ends NtoB true = refl
ends NtoB false = refl
ends NtoT true = refl
ends NtoT false = refl
ends BtoT true = refl
ends BtoT false = refl

pub every_grant_ends_its_grow : EveryGrantEndsItsGrow
every_grant_ends_its_grow shape s acquire = ends acquire.grow (is_alone shape.clients acquire.client s.client)
