-- What a search for a run comes to, as what is said of a record.
use Rattle.std.proofs.Common.{◌≡◌, ◌<◌, List, length, Result, Ok, Err, IfOk, subst}
use Rattle.tl_protocol.specs.declared.event.Event.{Event}
use Rattle.tlwire_search.specs.Premises.{drops}
use Rattle.tlwire_search.specs.declared.premises.Premises.{Premises}
use Rattle.tlwire_search.specs.declared.seen.Seen.{Seen}
use Rattle.tlwire_pins.proofs.InFull.{full_itself}
use Rattle.tlwire_pins.specs.Drops.{IsInFull}
use Rattle.tlwire_record.specs.Messages.{MessagesState}
use Rattle.tlwire_answer.specs.Answer.{IsExplained, IsExplainedInFull, IsFound, IsVerdict, with_lines}
use Rattle.tlwire_answer.specs.declared.verdict.Verdict.{Verdict}
use Rattle.tlwire_answer.specs.declared.verdict.Verdict.TheVariants.{Explained, Impossible, RuledOut, NotDecided, OtherOrder, Unmet}

-- of the record's own lines
found_verdict : (m : MessagesState) (seen : List Seen) (v : Verdict) → seen ≡ m.seen → IsFound (with_lines m seen) v → IsVerdict m v
found_verdict m seen (Explained run) e found = record {
  full = seen;
  in_full = subst (λ (xs : List Seen). IsInFull (drops m.setting.premises) xs seen) e (full_itself (drops m.setting.premises) seen);
  explained = found;
}
found_verdict m seen (Impossible w) e found = absurd found
found_verdict m seen (RuledOut stuck) e found = absurd found
found_verdict m seen (NotDecided place limit sets) e found = subst (λ (xs : List Seen). place < length xs) e found
found_verdict m seen (OtherOrder order sets) e found = tt
found_verdict m seen (Unmet unmet) e found = absurd found

pub found_then : {E : Type 0} (r : Result Verdict E) (m : MessagesState) (seen : List Seen) → seen ≡ m.seen → IfOk r (IsFound (with_lines m seen))
    → IfOk r (IsVerdict m)
found_then (Ok v) m seen e found = found_verdict m seen v e found
found_then (Err x) m seen e found = tt

-- of the record in full
pub found_in_full : (m : MessagesState) (premises : Premises) (seen full given : List Seen) (run : List Event) → premises ≡ m.setting.premises → seen ≡ m.seen
    → given ≡ full → IsInFull (drops premises) seen full → IsExplained (with_lines m given) run → IsExplainedInFull m run
found_in_full m premises seen full given run p e g filled explained = record {
  full = full;
  in_full =
      subst (λ (xs : List Seen). IsInFull (drops m.setting.premises) xs full) e
      (subst (λ (ps : Premises). IsInFull (drops ps) seen full) p filled);
  explained = subst (λ (xs : List Seen). IsExplained (with_lines m xs) run) g explained;
}
