use Rattle.std.proofs.Common.{◌∙◌, sym}
use Rattle.tl_script_words.proofs.WordLemmas.{number_gives}
use Rattle.tl_script_words.proofs.words.parse_number.Goals as goal

pub returns-then-is_plain : goal.returns-then-is_plain
returns-then-is_plain c = c.ok.ensures.value ∙ number_gives c.args.text.now c.parse.result (sym c.is_plain.ensures ∙ c.if-is_plain.true) c.parse.ensures.value.0
