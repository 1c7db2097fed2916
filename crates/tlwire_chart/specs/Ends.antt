-- Where a record of messages broke, by what is said of it (this project's own).
use Rattle.std.specs.Prelude.{ℕ, List, codes, Option, Some, None}
use Rattle.tlcheck_record.specs.Reason.{breaks_text}
use Rattle.tlwire_answer.specs.declared.verdict.Verdict.{Verdict}
use Rattle.tlwire_answer.specs.declared.verdict.Verdict.TheVariants.{Explained, Impossible, RuledOut, NotDecided, OtherOrder, Unmet}

-- the place of the line that is impossible: any other record broke nowhere
abbrev pub broken_at : Verdict → Option ℕ
broken_at (Explained events) = None
broken_at (Impossible wrong) = Some wrong.place
broken_at (RuledOut stuck) = Some stuck.place
broken_at (NotDecided place limit sets) = None
broken_at (OtherOrder order sets) = None
broken_at (Unmet unmet) = None

-- by what it broke: the rule that the line breaks, or that no run comes so far
abbrev pub words_of : Verdict → List ℕ
words_of (Impossible wrong) = breaks_text wrong.breach
words_of verdict = codes "no lawful run comes so far"
