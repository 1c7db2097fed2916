use Rattle.std.proofs.Common.{arith}
use Rattle.tl_links.proofs.KeyLaws.{length-keys, IsSound-append, lane-append}
use Rattle.tl_links.proofs.queue.Queue.push.Goals as goal

pub insert_reserved-key-requires : goal.insert_reserved-key-requires
insert_reserved-key-requires c = omega (arith, c.self.invariant.all, length-keys c.self.invariant c.self.view_is)

pub push_back_reserved-requires : goal.push_back_reserved-requires
push_back_reserved-requires c = omega (arith, c.self.invariant.order_room, length-keys c.self.invariant c.self.view_is)

pub invariant_of-self : goal.invariant_of-self
invariant_of-self c =
    let e = c.insert_reserved-key.ensures in
    rw (c.push_back_reserved.ensures.items, c.push_back_reserved.ensures.capacity)
    (IsSound-append c.self.invariant c.self.view_is c.insert_reserved-key.new.self c.insert_reserved-key.result c.args.message
    e.was_vacant e.updates e.len e.capacity c.requires.room c.requires.counted)

pub returns : goal.returns
returns c =
    let e = c.insert_reserved-key.ensures in
    rw (c.push_back_reserved.ensures.items)
    (lane-append c.self.invariant c.self.view_is c.insert_reserved-key.new.self c.insert_reserved-key.result c.args.message
    e.was_vacant e.updates)
