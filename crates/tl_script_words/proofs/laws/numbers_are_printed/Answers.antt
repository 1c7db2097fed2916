use Rattle.tl_script_words.proofs.WordLaws.{is_printed}
use Rattle.tl_script_words.proofs.laws.numbers_are_printed.Goals as goal

pub returns : goal.returns
returns c = is_printed
