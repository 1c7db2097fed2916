use Rattle.std.proofs.Common.{◌∙◌, sym}
use Rattle.tl_copies.proofs.PlaceLaws.{remove-place, without-none}
use Rattle.tl_copies.proofs.table.Table.clear.Goals as goal

pub returns-in-Some : goal.returns-in-Some
returns-in-Some c = c.note_gone.ensures ∙ c.remove.ensures ∙ remove-place c.args.block c.args.self.now c.in-Some.place c.in-Some.ensures

pub returns-in_default : goal.returns-in_default
returns-in_default c = sym (without-none c.args.block c.args.self.now c.in_default.ensures)
