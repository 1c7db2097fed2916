use Rattle.std.proofs.Common.{rules}
use Rattle.tl_types.proofs.permission.Report.of.Goals as goal

pub returns-in-Tip-ToB : goal.returns-in-Tip-ToB
returns-in-Tip-ToB c = search rules
