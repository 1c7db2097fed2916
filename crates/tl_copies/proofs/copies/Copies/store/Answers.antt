use Rattle.tl_copies.specs.declared.held.Held.{Held}
use Rattle.tl_copies.specs.Held.{stored}
use Rattle.tl_copies.proofs.TableLaws.{row_of, table_sound, held_at-changed, order_in-changed, sound-changed}
use Rattle.tl_copies.proofs.copies.Copies.store.Goals as goal

pub store-requires-clause-once : goal.store-requires-clause-once
store-requires-clause-once c =
    let row = row_of c.self.view_is c.index.ensures c.requires.client c.index_mut.ensures.value c.self.invariant.1 in
    (c.self.inside.blocks, (table_sound row).apart)

pub invariant_of-self : goal.invariant_of-self
invariant_of-self c =
    let row = row_of c.self.view_is c.index.ensures c.requires.client c.index_mut.ensures.value c.self.invariant.1 in
    (c.self.invariant.0, sound-changed row (λ (h : Held). stored c.args.offset c.args.access.now h) c.args.block c.store.new.self c.store.ensures)

pub returns-clause-after : goal.returns-clause-after
returns-clause-after c =
    let row = row_of c.self.view_is c.index.ensures c.requires.client c.index_mut.ensures.value c.self.invariant.1 in
    held_at-changed row (λ (h : Held). stored c.args.offset c.args.access.now h) c.args.block c.store.new.self c.store.ensures

pub returns-clause-order : goal.returns-clause-order
returns-clause-order c =
    let row = row_of c.self.view_is c.index.ensures c.requires.client c.index_mut.ensures.value c.self.invariant.1 in
    order_in-changed row (λ (h : Held). stored c.args.offset c.args.access.now h) c.args.block c.store.new.self c.store.ensures
