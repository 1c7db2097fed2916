-- A line of the header that would have decided a record, where it is true (this project's own format).
use Rattle.std.specs.Prelude.{◌≡◌, Bool, true, false, ℕ, List, [], ◌++◌, codes, Option, Some, None, IfSome}
use Rattle.std.specs.List.{list_any}
use Rattle.tlwire_search.specs.Explained.{wire_of}
use Rattle.tlwire_search.specs.Premises.{is_unseen}
use Rattle.tlwire_search.specs.declared.premises.Premises.{Premises}
use Rattle.tlwire_search.specs.declared.seen.Seen.{Seen}
use Rattle.tlwire_record.specs.Messages.{MessagesState, supposing}
use Rattle.tlwire_record.specs.Premise.{with_line}
use Rattle.tlwire_record.specs.declared.premise.Premise.{Premise}
use Rattle.tlwire_record.specs.declared.premise.Premise.TheVariants as premise
use Rattle.tlwire_answer.specs.Answer.{IsJudged}
use Rattle.tlwire_answer.specs.declared.advice.Advice.{Advice}
use Rattle.tlwire_answer.specs.declared.advice.Advice.TheVariants as its
use Rattle.tlwire_answer.specs.declared.verdict.Verdict.{Verdict}
use Rattle.tlwire_answer.specs.declared.verdict.Verdict.TheVariants.{Explained, Impossible, RuledOut, NotDecided, OtherOrder, Unmet}

-- what a line says of how the record was seen
abbrev pub premise_of : Advice → Premise
premise_of its.Between = premise.Between
premise_of its.AtClients = premise.AtClients
premise_of its.AtHome = premise.AtHome
premise_of its.MemoryUnseen = premise.MemoryUnseen
premise_of its.CoresUnseen = premise.CoresUnseen
premise_of its.Whole = premise.Whole

-- a line stands where a header says that nobody watched
abbrev pub is_unwatched : Premises → Seen → Bool
is_unwatched premises s = is_unseen premises (wire_of s)

-- some does
abbrev pub is_forbidden : List Seen → Premises → Bool
is_forbidden lines premises = list_any (is_unwatched premises) lines

-- what the header would say of how the record was seen with this line too
abbrev pub supposed : MessagesState → Advice → Premises
supposed m a = with_line m.setting.premises (premise_of a)

-- it is a run, or that there is none
abbrev pub is_decided : Verdict → Bool
is_decided (Explained run) = true
is_decided (Impossible w) = true
is_decided (RuledOut stuck) = true
is_decided (NotDecided place limit undecided) = false
is_decided (OtherOrder order undecided) = false
is_decided (Unmet unmet) = false

-- With one line more in its header, which the record's lines allow, what is said of the record is decided.
pub record Decides (m : MessagesState) (a : Advice) : Type 0 where
  pub allowed : is_forbidden m.seen (supposed m a) ≡ false
  pub verdict : Verdict
  pub judged : IsJudged (supposing m (supposed m a)) verdict
  pub decided : is_decided verdict ≡ true

-- A verdict that is none names such a line, or no line.
abbrev pub IsAdvised : MessagesState → Verdict → Type 0
IsAdvised m (Explained run) = Unit {0}
IsAdvised m (Impossible w) = Unit {0}
IsAdvised m (RuledOut stuck) = Unit {0}
IsAdvised m (NotDecided place limit undecided) = IfSome undecided.advice (Decides m)
IsAdvised m (OtherOrder order undecided) = IfSome undecided.advice (Decides m)
IsAdvised m (Unmet unmet) = Unit {0}

-- ## What is told

-- the line
abbrev pub advice_text : Advice → List ℕ
advice_text its.Between = codes "seen between"
advice_text its.AtClients = codes "seen at clients"
advice_text its.AtHome = codes "seen at home"
advice_text its.MemoryUnseen = codes "memory unseen"
advice_text its.CoresUnseen = codes "cores unseen"
advice_text its.Whole = codes "whole"

-- that it would decide the record
abbrev pub advised_line : Option Advice → List ℕ
advised_line None = []
advised_line (Some a) = codes "`" ++ advice_text a ++ codes "` in the header would decide it, where that is true\n"
