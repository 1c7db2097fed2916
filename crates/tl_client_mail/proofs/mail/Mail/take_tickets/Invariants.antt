use Rattle.std.proofs.Common.{◌≡◌, ◌+◌, ◌≤◌, ◌++◌, List, length, map, vec_len, vec_capacity}
use Rattle.std.specs.List.{filter}
use Rattle.tl_types.specs.declared.ticket.Ticket.{Ticket}
use Rattle.tl_tickets.specs.declared.sent.Sent.{Sent}
use Rattle.tl_client_mail.specs.Lanes.{brings}
use Rattle.tl_client_mail.specs.declared.mail.TheConstants.{BATCH}
use Rattle.tl_client_mail.proofs.mail.Mail.take_tickets.Given as goal

-- so many more tickets as may come have room; of those taken so far the worker's joined the list
abbrev pub invariant-loop : goal.invariant-loop
invariant-loop g l = record {
  room : vec_len l.taken + BATCH ≤ vec_capacity l.taken + l.counter;
  few : length l.taken.items ≤ length l.fn.taken.items + l.counter;
  sending : l.self-inside.sending ≡ l.initial.self-inside.sending;
  known : l.self-inside.has_room ≡ l.initial.self-inside.has_room;
  inbox : l.self-inside.inbox.inbox ≡ l.initial.self-inside.inbox.inbox;
  done : l.self-inside.done ≡ l.initial.self-inside.done;
  took : (popped : List Sent) × (length popped ≤ l.counter)
      × (l.self-inside.inbox.pass.taken ≡ l.initial.self-inside.inbox.pass.taken ++ popped)
      × (l.taken.items ≡ l.fn.taken.items ++ filter (λ (t : Ticket). brings l.links t) (map (λ (s : Sent). s.ticket) popped));
}
