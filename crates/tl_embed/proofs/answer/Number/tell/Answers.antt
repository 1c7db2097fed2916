use Rattle.std.proofs.Common.{rules}
use Rattle.tl_embed.proofs.answer.Number.tell.Goals as goal

-- what a number does not tell is 0
pub returns : goal.returns
returns c = search rules
