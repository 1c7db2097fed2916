-- What closed sets say of the lines before a place.
use Rattle.std.proofs.Common.{◌≤◌, ℕ, arith}
use Rattle.tlwire_record.specs.Messages.{MessagesState}
use Rattle.tlwire_answer.specs.Answer.{IsSets}
use Rattle.tlwire_answer.specs.declared.sets.Sets.{Sets}
use Rattle.tlwire_answer.specs.declared.sets.Sets.TheVariants.{Stuck, Open}

-- what they say of fewer lines they say of more
pub sets_less : (m : MessagesState) (from to : ℕ) (s : Sets) → from ≤ to → IsSets m from s → IsSets m to s
sets_less m from to (Stuck stuck) le said = (said.0, omega (arith, le, said.1))
sets_less m from to (Open reason) le said = tt
