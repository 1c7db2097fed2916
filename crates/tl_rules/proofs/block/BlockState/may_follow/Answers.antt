use Rattle.std.proofs.Common.{rules}
use Rattle.tl_rules.proofs.block.BlockState.may_follow.Goals as goal

pub returns-in-Drop : goal.returns-in-Drop
returns-in-Drop c = search rules
