use Rattle.std.proofs.Common.{◌≡◌, true, ap, sym, ◌∙◌, rules}
use Rattle.tlwire_record.specs.Header.{SettingState}
use Rattle.tlwire_search.specs.declared.premises.Premises.{Premises}
use Rattle.tlwire_pins.specs.Taps.{tap_of}
use Rattle.tlwire_answer.specs.Named.{is_told}
use Rattle.tlwire_answer.proofs.Firsts.{wrong_then}
use Rattle.tlwire_answer.proofs.pins.wrong_at.Goals as goal

pub returns : goal.returns
returns c =
    let read : c.premises-premises.result.now ≡ c.args.messages.now.setting.premises =
    c.premises-premises.ensures ∙ ap (λ (x : SettingState). x.premises) c.setting-setting.ensures in
    let told : c.is_told.result ≡ true = search rules in
    wrong_then c.first_wrong.result c.args.messages.now c.tap_of-tap.result c.shape-shape.result c.seen.result.now c.args.client
    (c.tap_of-tap.ensures ∙ ap (λ (ps : Premises). tap_of ps c.args.client) read)
    (c.shape-shape.ensures.shape ∙ ap (λ (x : SettingState). x.shape) c.setting-setting.ensures) c.seen.ensures
    (ap (λ (ps : Premises). is_told ps c.args.client) (sym read) ∙ (sym c.is_told.ensures ∙ told)) c.first_wrong.ensures.wrong
    c.first_wrong.ensures.impossible c.first_wrong.ensures.first c.first_wrong.ensures.none
