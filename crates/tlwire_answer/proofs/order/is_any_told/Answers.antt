use Rattle.std.proofs.Common.{◌≡◌, ℕ, false, sym, ap, ◌∙◌, arith, below_more}
use Rattle.tl_protocol.specs.declared.shape.Shape.{Shape}
use Rattle.tlwire_record.specs.Header.{SettingState}
use Rattle.tlwire_answer.specs.Named.{is_told}
use Rattle.tlwire_search.specs.declared.premises.Premises.{Premises}
use Rattle.tlwire_answer.proofs.order.is_any_told.Goals as goal

pub loop-number-preserved : goal.loop-number-preserved
loop-number-preserved c =
    let named = c.args.messages.now.setting.premises in
    let read = c.premises.ensures ∙ ap (λ (x : SettingState). x.premises) c.setting-in-loop-number.ensures in
    let here : is_told named c.loop-number.number ≡ false =
    ap (λ (n : ℕ). is_told named n) (sym c.new.ensures)
    ∙ (ap (λ (ps : Premises). is_told ps c.new.result) (sym read)
    ∙ (sym c.is_told.ensures ∙ c.if-is_told.false)) in
    below_more (λ (n : ℕ). is_told named n ≡ false) c.loop-number.number c.loop-number.invariant here

pub returns : goal.returns
returns c =
    let all : c.shape-number-end.result.clients ≡ c.args.messages.now.setting.shape.clients =
    ap (λ (s : Shape). s.clients) (c.shape-number-end.ensures.shape ∙ ap (λ (x : SettingState). x.shape) c.setting.ensures) in
    λ client lt. c.loop-number.invariant client (omega arith)
