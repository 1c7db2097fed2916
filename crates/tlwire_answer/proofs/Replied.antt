-- What is told of a record.
use Rattle.std.proofs.Common.{ℕ, List, sym, subst}
use Rattle.tlwire_answer.specs.Ending.{Tells}
use Rattle.tlwire_answer.specs.Replies.{MayEnd}
use Rattle.tlwire_answer.specs.declared.ending.Ending.{Ending}
use Rattle.tlwire_answer.specs.declared.ending.Ending.TheVariants.{Usage, Answered, Wrong, Empty, Memory, File}

-- what is told in place of an ending may be said, where that may be
pub told_may : (lines : List (List ℕ)) (ending told : Ending) → Tells ending told → MayEnd lines ending → MayEnd lines told
told_may lines ending Usage is may = subst (λ (e : Ending). MayEnd lines e) (sym is) may
told_may lines ending (Answered m verdict) is may = subst (λ (e : Ending). MayEnd lines e) (sym is) may
told_may lines ending (Wrong line cause) is may = subst (λ (e : Ending). MayEnd lines e) (sym is) may
told_may lines ending Empty is may = subst (λ (e : Ending). MayEnd lines e) (sym is) may
told_may lines ending Memory is may = tt
told_may lines ending File is may = tt
