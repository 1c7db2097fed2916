use Rattle.std.proofs.Common.{ap, ◌∙◌}
use Rattle.tlwire_record.specs.Header.{SettingState}
use Rattle.tlwire_answer.proofs.Found.{found_in_full}
use Rattle.tlwire_answer.proofs.verdict.explained_with_drops.Goals as goal

pub returns-in-Explained : goal.returns-in-Explained
returns-in-Explained c =
    found_in_full c.args.messages.now c.premises-premises.result.now c.seen.result.now c.in_ok-full.full.items c.deref.result.now c.in-Explained.run'.items
    (c.premises-premises.ensures ∙ ap (λ (x : SettingState). x.premises) c.setting-setting.ensures) c.seen.ensures c.deref.ensures.value
    c.in_ok-full.ensures (rw c.in-Explained.is at c.in_ok-run.ensures)
