use Rattle.std.proofs.Common.{rules, ◌≡◌, ℕ, ◌<◌, [], refl, ◌∙◌, sym, ap, subst}
use Rattle.tl_bank_spec.specs.View.{View}
use Rattle.tl_bank_spec.specs.Views.{HasNoMessage, AwaitsNothing}
use Rattle.tl_bank_laws.specs.Means.{Means}
use Rattle.tl_bank.specs.Shown.{layers}
use Rattle.tl_bank_laws.proofs.Quiet.{below-more, quiet-is, registers-none}
use Rattle.tl_bank.proofs.bank.Bank.is_quiet.Goals as goal

pub loop-number-preserved : goal.loop-number-preserved
loop-number-preserved c =
    let Idle : ℕ → Type 0 = λ x. HasNoMessage c.args.self.now x × AwaitsNothing c.args.self.now x in
    let here : Idle c.new-client.result =
    (c.has_no_message.ensures.0 c.if-not-has_no_message.false, c.awaits_nothing.ensures.0 c.if-not-awaits_nothing.false) in
    below-more Idle c.loop-number.number c.loop-number.invariant (subst Idle c.new-client.ensures here)

pub returns : goal.returns
returns c =
    let m : Means c.args.self.now (layers c.self.inside) =
    subst (λ (v : View). Means v (layers c.self.inside)) c.self.view_is c.self.invariant in
    let none : c.args.self.now.registers ≡ [] =
    registers-none c.args.self.now c.self.inside.registers.open_registers (ap (λ (v : View). v.registers) c.self.view_is)
    (sym c.is_empty.ensures ∙ c.if-not-is_empty.false) in
    let each : (x : ℕ) → x < c.args.self.now.geometry.clients → HasNoMessage c.args.self.now x × AwaitsNothing c.args.self.now x =
    λ x lt. c.loop-number.invariant x (search rules) in
    ((λ _. quiet-is c.args.self.now (layers c.self.inside) m none each), (λ _. refl))

pub returns-then-not-is_empty : goal.returns-then-not-is_empty
returns-then-not-is_empty c = search rules
