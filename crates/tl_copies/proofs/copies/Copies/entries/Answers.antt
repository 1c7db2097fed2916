use Rattle.std.proofs.Common.{◌∙◌, sym}
use Rattle.tl_copies.proofs.CountLaws.{entries-table}
use Rattle.tl_copies.proofs.copies.Copies.entries.Goals as goal

pub returns-clause-value : goal.returns-clause-value
returns-clause-value c =
    c.len.ensures.value ∙ sym (entries-table c.args.self.now c.args.client c.table.result.now c.table.ensures.held c.table.ensures.sound)
