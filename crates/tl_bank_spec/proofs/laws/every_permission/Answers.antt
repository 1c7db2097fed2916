use Rattle.tl_bank_spec.proofs.Permissions.{every_answer_is_its_report, every_grant_ends_its_grow}
use Rattle.tl_bank_spec.proofs.laws.every_permission.Goals as goal

pub returns-clause-answers : goal.returns-clause-answers
returns-clause-answers c = every_answer_is_its_report

pub returns-clause-grants : goal.returns-clause-grants
returns-clause-grants c = every_grant_ends_its_grow
