use Rattle.tlwire_pins.proofs.Impossible.{every_line}
use Rattle.tlwire_pins.proofs.theorem.every_line_may_be_seen.Goals as goal

pub returns : goal.returns
returns c = every_line
