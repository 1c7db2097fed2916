use Rattle.std.proofs.Common.{◌∙◌, sym, ap}
use Rattle.tl_copies.specs.Held.{is_awaited}
use Rattle.tl_copies.proofs.FirstLaws.{awaits-none, none-awaits}
use Rattle.tl_copies.proofs.copies.Copies.awaits_nothing.Goals as goal

pub returns : goal.returns
returns c = (
  (λ h b _. ap is_awaited (c.table.ensures.held b) ∙ awaits-none c.table.result.now (sym c.awaits_nothing.ensures ∙ h) b),
  (λ h. c.awaits_nothing.ensures ∙ none-awaits c.args.self.now.blocks c.table.result.now c.table.ensures.sound.apart
      (λ b l. ap is_awaited (sym (c.table.ensures.held b)) ∙ h b l)),
)
