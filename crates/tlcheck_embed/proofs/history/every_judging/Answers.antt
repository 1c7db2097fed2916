use Rattle.tlcheck_embed.proofs.Judging.{every-judging}
use Rattle.tlcheck_embed.proofs.history.every_judging.Goals as goal

pub returns : goal.returns
returns c = every-judging
