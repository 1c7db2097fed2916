use Rattle.std.proofs.Common.{Some, ◌∙◌, ap, sym}
use Rattle.tl_copies.specs.Entries.{Entry}
use Rattle.tl_copies.proofs.EntryLaws.{entry}
use Rattle.tl_copies.proofs.PlaceLaws.{found-place}
use Rattle.tl_copies.proofs.table.Table.near.Goals as goal

pub returns : goal.returns
returns c =
    let d : Entry = entry c.args.block c.held.result.now in
    ap (λ h. Some h) (c.held.ensures d) ∙ sym (found-place c.args.block c.args.self.now c.in_ok-place.place d c.in_ok-place.ensures)
