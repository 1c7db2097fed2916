use Rattle.std.proofs.Common.{arith}
use Rattle.std.proofs.lemmas.Grind.{common_steps}
use Rattle.tl_script_words.proofs.SpaceLaws.{load_words}
use Rattle.tl_script_words.proofs.command.Command.load.Goals as goal

pub returns : goal.returns
returns c = grind (arith, common_steps, load_words)

pub returns-in_err-len-2 : goal.returns-in_err-len-2
returns-in_err-len-2 c = grind (arith, common_steps, load_words)
