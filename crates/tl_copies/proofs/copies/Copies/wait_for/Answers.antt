use Rattle.std.proofs.Common.{arith}
use Rattle.tl_copies.proofs.TableLaws.{row_of, table_sound, held_at-kept, order_in-kept, kept-waiting, room-row, sound-roomy}
use Rattle.tl_copies.proofs.copies.Copies.wait_for.Goals as goal

pub wait_for-requires-clause-once : goal.wait_for-requires-clause-once
wait_for-requires-clause-once c =
    let row = row_of c.self.view_is c.index.ensures c.requires.client c.index_mut.ensures.value c.self.invariant.1 in
    (c.self.inside.blocks, (table_sound row).apart)

pub wait_for-requires-clause-room : goal.wait_for-requires-clause-room
wait_for-requires-clause-room c = λ none.
    let row = row_of c.self.view_is c.index.ensures c.requires.client c.index_mut.ensures.value c.self.invariant.1 in
    let room = room-row row c.args.block c.requires.room none in
    omega (arith, room, c.self.invariant.0)

pub invariant_of-self : goal.invariant_of-self
invariant_of-self c =
    let row = row_of c.self.view_is c.index.ensures c.requires.client c.index_mut.ensures.value c.self.invariant.1 in
    (c.self.invariant.0, sound-roomy row c.args.block _ c.wait_for.new.self c.wait_for.ensures (room-row row c.args.block c.requires.room) c.requires.block)

pub returns-clause-after : goal.returns-clause-after
returns-clause-after c =
    let row = row_of c.self.view_is c.index.ensures c.requires.client c.index_mut.ensures.value c.self.invariant.1 in
    let kept = kept-waiting row c.args.block c.args.wait c.wait_for.new.self c.wait_for.ensures in
    held_at-kept row c.args.block _ c.wait_for.new.self kept

pub returns-clause-order : goal.returns-clause-order
returns-clause-order c =
    let row = row_of c.self.view_is c.index.ensures c.requires.client c.index_mut.ensures.value c.self.invariant.1 in
    let kept = kept-waiting row c.args.block c.args.wait c.wait_for.new.self c.wait_for.ensures in
    order_in-kept row c.args.block _ c.wait_for.new.self kept
