use Rattle.tl_script.proofs.TextLemmas.{values_of-array}
use Rattle.tl_script.proofs.document.values_of.Goals as goal

pub returns-in-Some : goal.returns-in-Some
returns-in-Some c = rw c.deref.ensures.value (values_of-array _ _ c.in-Some.ensures)
