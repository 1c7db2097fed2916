use Rattle.std.proofs.Common.{arith}
use Rattle.std.proofs.lemmas.Grind.{common_steps}
use Rattle.toml.specs.View.{view}
use Rattle.tl_script.proofs.TextLemmas.{words-values}
use Rattle.tl_script.proofs.commands.client_commands.Goals as goal

pub loop-index-init : goal.loop-index-init
loop-index-init c =
    rw (← words-values (view c.args.list.now) c.values_of-values.result.now c.values_of-values.ensures) (grind (arith, common_steps))
