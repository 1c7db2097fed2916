use Rattle.tl_copies.proofs.TableLaws.{row_of, table_sound, held_at-without, order_in-without, sound-without}
use Rattle.tl_copies.proofs.copies.Copies.clear.Goals as goal

pub clear-requires : goal.clear-requires
clear-requires c =
    let row = row_of c.self.view_is c.index.ensures c.requires c.index_mut.ensures.value c.self.invariant.1 in
    (c.self.inside.blocks, (table_sound row).apart)

pub invariant_of-self : goal.invariant_of-self
invariant_of-self c =
    let row = row_of c.self.view_is c.index.ensures c.requires c.index_mut.ensures.value c.self.invariant.1 in
    (c.self.invariant.0, sound-without row c.args.block c.clear.new.self c.clear.ensures)

pub returns-clause-after : goal.returns-clause-after
returns-clause-after c =
    let row = row_of c.self.view_is c.index.ensures c.requires c.index_mut.ensures.value c.self.invariant.1 in
    held_at-without row c.args.block c.clear.new.self c.clear.ensures

pub returns-clause-order : goal.returns-clause-order
returns-clause-order c =
    let row = row_of c.self.view_is c.index.ensures c.requires c.index_mut.ensures.value c.self.invariant.1 in
    order_in-without row c.args.block c.clear.new.self c.clear.ensures
