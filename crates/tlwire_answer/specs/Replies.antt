-- What an answer to a record of messages ends with.
use Rattle.std.specs.Prelude.{◌≡◌, ℕ, List, Ok, Err}
use Rattle.tlwire_record.specs.Messages.{MessagesState}
use Rattle.tlwire_record.specs.Read.{IsRead}
use Rattle.tlwire_record.specs.declared.record.ReadFault.TheVariants as read
use Rattle.tlwire_answer.specs.Advice.{IsAdvised}
use Rattle.tlwire_answer.specs.Answer.{IsJudged}
use Rattle.tlwire_answer.specs.declared.ending.Ending.{Ending}
use Rattle.tlwire_answer.specs.declared.ending.Ending.TheVariants.{Usage, Answered, Wrong as WrongLine, Empty, Memory, File}

-- What may be said of a record's lines: what was seen is what they say, and what is said of it holds; or the first line that is outside
-- the format, and what is wrong with it; or that there is nothing seen.
abbrev pub MayEnd : List (List ℕ) → Ending → Type 0
MayEnd lines Usage = ⊥
MayEnd lines (Answered m verdict) = IsRead lines (Ok m) × IsJudged m verdict × IsAdvised m verdict
MayEnd lines (WrongLine line cause) = IsRead lines (Err (read.Line line cause))
MayEnd lines Empty = IsRead lines (Err read.Empty)
MayEnd lines Memory = Unit {0}
MayEnd lines File = Unit {0}

-- what may be said of what was seen
abbrev pub IsEnding : MessagesState → Ending → Type 0
IsEnding seen Usage = ⊥
IsEnding seen (Answered m verdict) = (m ≡ seen) × IsJudged m verdict × IsAdvised m verdict
IsEnding seen (WrongLine line cause) = ⊥
IsEnding seen Empty = ⊥
IsEnding seen Memory = Unit {0}
IsEnding seen File = ⊥
