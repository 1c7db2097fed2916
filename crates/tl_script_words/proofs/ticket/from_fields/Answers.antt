use Rattle.std.proofs.Common.{arith}
use Rattle.std.proofs.lemmas.Bool.{ltb-true, ltb-false}
use Rattle.tl_script_words.proofs.StepLemmas.{ticket_in-other}
use Rattle.tl_script_words.proofs.ticket.from_fields.Goals.{in_default-via-then-fields-lt4, in_default-via-else-fields-lt4+else-fields-lt5}
use Rattle.tl_script_words.proofs.ticket.from_fields.Goals as goal

pub returns-in_default : goal.returns-in_default
returns-in_default c = ticket_in-other c.args.fields.now (λ four. elim c.in_default.branch [
  | in_default-via-then-fields-lt4 w ↦ omega (arith, four, ltb-true, ltb-false)
  | in_default-via-else-fields-lt4+else-fields-lt5 w ↦ omega (arith, four, ltb-true, ltb-false)
])
