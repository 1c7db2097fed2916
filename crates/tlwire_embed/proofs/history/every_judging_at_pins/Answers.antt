use Rattle.tlwire_embed.proofs.Judging.{every-judging-at-pins}
use Rattle.tlwire_embed.proofs.history.every_judging_at_pins.Goals as goal

pub returns : goal.returns
returns c = every-judging-at-pins
