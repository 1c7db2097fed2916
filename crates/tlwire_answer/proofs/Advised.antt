-- What is said of a record holds of one that is the same.
use Rattle.std.proofs.Common.{◌≡◌, subst, sym}
use Rattle.tlwire_record.specs.Messages.{MessagesState}
use Rattle.tlwire_answer.specs.Advice.{Decides, IsAdvised}
use Rattle.tlwire_answer.specs.Answer.{IsJudged}
use Rattle.tlwire_answer.specs.declared.advice.Advice.{Advice}
use Rattle.tlwire_answer.specs.declared.verdict.Verdict.{Verdict}

-- that a line decides it
pub decides_same : (m n : MessagesState) (a : Advice) → m ≡ n → Decides m a → Decides n a
decides_same m n a e decides = subst (λ (x : MessagesState). Decides x a) e decides

-- a verdict, and the line that it names
pub said_same : (m n : MessagesState) (v : Verdict) → m ≡ n → IsJudged n v → IsAdvised n v → IsJudged m v × IsAdvised m v
said_same m n v e judged advised = subst (λ (x : MessagesState). IsJudged x v × IsAdvised x v) (sym e) (judged, advised)
