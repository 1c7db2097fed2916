use Rattle.std.proofs.Common.{ap, refl, ◌∙◌}
use Rattle.tlwire_record.specs.Header.{SettingState}
use Rattle.tlwire_search.specs.declared.premises.Premises.{Premises}
use Rattle.tlwire_answer.specs.Answer.{with_lines}
use Rattle.tlwire_pins.specs.Taps.{cores_of}
use Rattle.tlwire_answer.proofs.Told.{keeps_then}
use Rattle.tlwire_answer.proofs.order.keeps.Goals as goal

pub returns : goal.returns
returns c =
    keeps_then c.keeps_order.result (with_lines c.args.messages.now c.args.seen.now) c.cores_of-cores.result c.shape-shape.result c.args.lines.now c.args.seen.now c.args.client
    (c.cores_of-cores.ensures
    ∙ ap (λ (ps : Premises). cores_of ps c.args.client) (c.premises-premises.ensures ∙ ap (λ (x : SettingState). x.premises) c.setting-setting.ensures))
    (c.shape-shape.ensures.shape ∙ ap (λ (x : SettingState). x.shape) c.setting-setting.ensures) refl c.keeps_order.ensures
