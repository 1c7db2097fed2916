use Rattle.std.proofs.Common.{◌≡◌, []}
use Rattle.crossbeam_queue.specs.Passes.{view, IsPassOf, ruled_capacity}
use Rattle.tl_tickets.specs.Inbox.{InboxView, fresh_senders}
use Rattle.tl_tickets.specs.Delivery.{receiver}
use Rattle.tl_tickets.proofs.inbox.Inbox.new.Given as goal

abbrev pub invariant-loop-earlier : goal.invariant-loop-earlier
invariant-loop-earlier l =
    let inbox : InboxView = record { table = l.queue.table.shared.table_id; capacity = l.capacity; senders = l.senders } in
    IsPassOf l.queue l.receiver × (view l.receiver ≡ receiver l.senders l.earlier 0 []) × (l.passes.items ≡ fresh_senders inbox l.earlier) × (ruled_capacity l.queue ≡ l.capacity)
