use Rattle.std.proofs.Common.{arith}
use Rattle.std.proofs.lemmas.Grind.{common_steps}
use Rattle.tl_script_words.proofs.SpaceLaws.{no_drop}
use Rattle.tl_script_words.proofs.command.Command.drop_copy.Goals as goal

pub returns-in_default-Some : goal.returns-in_default-Some
returns-in_default-Some c = grind (arith, common_steps, no_drop)
