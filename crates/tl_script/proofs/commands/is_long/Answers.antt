use Rattle.toml.specs.View.{view}
use Rattle.tl_script.proofs.TextLemmas.{length-texts}
use Rattle.tl_script.proofs.commands.is_long.Goals as goal

pub returns : goal.returns
returns c = rw (length-texts (view c.args.list.now) c.values_of.result.now c.values_of.ensures)
