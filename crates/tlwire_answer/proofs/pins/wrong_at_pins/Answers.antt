use Rattle.std.proofs.Common.{◌≡◌, ℕ, ap, subst, ◌∙◌, arith}
use Rattle.tl_protocol.specs.declared.shape.Shape.{Shape}
use Rattle.tlwire_record.specs.Header.{SettingState}
use Rattle.tlwire_answer.specs.Answer.{IsFirstOf, IsWrongAt}
use Rattle.tlwire_answer.proofs.pins.wrong_at_pins.Goals as goal

pub loop-number-preserved : goal.loop-number-preserved
loop-number-preserved c =
    c.sooner-first.ensures c.args.messages.now c.loop-number.number c.loop-number.invariant
    (subst (λ (n : ℕ). IsWrongAt c.args.messages.now n c.in_ok-found.found) c.new.ensures c.in_ok-found.ensures)

pub returns : goal.returns
returns c =
    let all : c.shape-number-end.result.clients ≡ c.args.messages.now.setting.shape.clients =
    ap (λ (s : Shape). s.clients) (c.shape-number-end.ensures.shape ∙ ap (λ (x : SettingState). x.shape) c.setting.ensures) in
    let past : c.loop-number.number ≡ c.args.messages.now.setting.shape.clients = omega arith in
    subst (λ (n : ℕ). IsFirstOf c.args.messages.now n c.loop-number.first) past c.loop-number.invariant
