use Rattle.std.proofs.Common.{◌≡◌, []}
use Rattle.crossbeam_queue.specs.Passes.{view, IsPassOf}
use Rattle.tl_tickets.specs.Delivery.{receiver}
use Rattle.tl_tickets.proofs.inbox.count_senders.Given as goal

abbrev pub invariant-loop-counted : goal.invariant-loop-counted
invariant-loop-counted l = IsPassOf l.queue l.receiver × (l.receiver.me.1 ≡ l.initial.receiver.me.1) × (view l.receiver ≡ receiver l._counted 0 0 [])
