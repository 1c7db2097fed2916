use Rattle.std.proofs.Common.{ap, refl, ◌∙◌}
use Rattle.tlwire_record.specs.Header.{SettingState}
use Rattle.tlwire_search.specs.declared.premises.Premises.{Premises}
use Rattle.tlwire_answer.specs.Named.{premise_of}
use Rattle.tlwire_answer.specs.Answer.{with_lines}
use Rattle.tlwire_answer.proofs.Told.{meets_then}
use Rattle.tlwire_answer.proofs.order.meets.Goals as goal

pub returns : goal.returns
returns c =
    meets_then c.is_seen_so.result (with_lines c.args.messages.now c.args.seen.now) c.args.run.now c.args.way c.shape-shape.result c.premise_of-premise.result
    c.image.result.now c.args.seen.now
    (c.shape-shape.ensures.shape ∙ ap (λ (x : SettingState). x.shape) c.setting-setting.ensures)
    (c.premise_of-premise.ensures
    ∙ ap (λ (ps : Premises). premise_of ps c.args.way) (c.premises-2.ensures ∙ ap (λ (x : SettingState). x.premises) c.setting-setting.ensures))
    c.image.ensures refl c.is_seen_so.ensures
