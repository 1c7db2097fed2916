use Rattle.std.proofs.Common.{◌∙◌, sym, arith, eqb-true}
use Rattle.tl_copies.specs.Slots.{blank}
use Rattle.tl_copies.specs.Entries.{Entry}
use Rattle.tl_copies.proofs.EntryLaws.{entry}
use Rattle.tl_copies.proofs.PlaceLaws.{place-once}
use Rattle.tl_copies.proofs.table.Table.is_at.Goals as goal

pub returns-then-place-len : goal.returns-then-place-len
returns-then-place-len c = λ yes.
    let d : Entry = entry 0 blank in
    place-once c.requires.0 c.args.block c.args.self.now c.args.place d c.requires.1 (omega (arith, c.if-place-len.true, c.len.ensures.value))
    (sym (c.block.ensures d) ∙ eqb-true c.block.result c.args.block (sym c.eq.ensures ∙ yes))
