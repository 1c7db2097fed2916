use Rattle.std.specs.Prelude.{IsErr}
use Rattle.tl_copies.proofs.TableLaws.{row_of, table_sound, on_ok, held_at-kept, order_in-kept, sound-kept, full-is}
use Rattle.tl_copies.proofs.copies.Copies.keep.Goals as goal

pub keep-requires-clause-once : goal.keep-requires-clause-once
keep-requires-clause-once c =
    let row = row_of c.self.view_is c.index.ensures c.requires.client c.index_mut.ensures.value c.self.invariant.1 in
    (c.self.inside.blocks, (table_sound row).apart)

pub invariant_of-self : goal.invariant_of-self
invariant_of-self c =
    let row = row_of c.self.view_is c.index.ensures c.requires.client c.index_mut.ensures.value c.self.invariant.1 in
    let e = c.keep.ensures in
    (c.self.invariant.0, sound-kept row c.keep.result c.args.block c.args.held c.keep.new.self e.after e.unchanged e.full c.requires.block)

pub returns-clause-after : goal.returns-clause-after
returns-clause-after c =
    let row = row_of c.self.view_is c.index.ensures c.requires.client c.index_mut.ensures.value c.self.invariant.1 in
    on_ok c.keep.result (held_at-kept row c.args.block c.args.held c.keep.new.self) c.keep.ensures.after

pub returns-clause-order : goal.returns-clause-order
returns-clause-order c =
    let row = row_of c.self.view_is c.index.ensures c.requires.client c.index_mut.ensures.value c.self.invariant.1 in
    on_ok c.keep.result (order_in-kept row c.args.block c.args.held c.keep.new.self) c.keep.ensures.after

pub returns-clause-full : goal.returns-clause-full
returns-clause-full c =
    let row = row_of c.self.view_is c.index.ensures c.requires.client c.index_mut.ensures.value c.self.invariant.1 in
    full-is row c.args.block (IsErr c.keep.result) c.keep.ensures.full
