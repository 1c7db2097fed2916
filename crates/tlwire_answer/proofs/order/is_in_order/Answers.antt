use Rattle.std.proofs.Common.{sym, ap, ◌∙◌}
use Rattle.std.proofs.lemmas.Bool.{false≢true}
use Rattle.tlwire_record.specs.Header.{SettingState}
use Rattle.tlwire_answer.specs.Answer.{with_lines}
use Rattle.tlwire_answer.proofs.Told.{in_order_then}
use Rattle.tlwire_answer.proofs.order.is_in_order.Goals as goal

pub returns-in-Some : goal.returns-in-Some
returns-in-Some c =
    in_order_then c.keep_order.result (with_lines c.args.messages.now c.args.seen.now) c.args.run.now c.shape-shape.result c.image.result.now c.in-Some.lines.items c.deref.result.now
    (c.shape-shape.ensures.shape ∙ ap (λ (x : SettingState). x.shape) c.setting.ensures) c.image.ensures (rw c.in-Some.is at c.in_ok-lines.ensures)
    c.deref.ensures.value c.keep_order.ensures

-- where no client was seen there, nothing is asked
pub returns-then-not-is_any_told : goal.returns-then-not-is_any_told
returns-then-not-is_any_told c = λ t client lt told.
    absurd (false≢true (sym (c.if-not-is_any_told.ensures client lt) ∙ told))
