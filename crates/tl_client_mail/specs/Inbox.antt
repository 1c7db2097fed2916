-- What a worker takes of its inbox (this project's own).
use Rattle.std.specs.Prelude.{◌≡◌, ◌≤◌, List, ◌++◌, map, length}
use Rattle.std.specs.List.{filter}
use Rattle.tl_types.specs.declared.ticket.Ticket.{Ticket}
use Rattle.tl_tickets.specs.Ends.{InboxEnd}
use Rattle.tl_tickets.specs.declared.sent.Sent.{Sent}
use Rattle.tl_client_mail.specs.Lanes.{brings}
use Rattle.tl_client_mail.specs.declared.mail.TheConstants.{BATCH}
use Rattle.tl_client_mail.specs.declared.links.Links.{Links}

-- what was taken of one inbox between two moments, at most `BATCH` tickets; those of the worker's links joined a list, in order
abbrev pub Took : Links → InboxEnd → List Ticket → InboxEnd → List Ticket → Type 0
Took links old before new after =
    (new.inbox ≡ old.inbox) × ((popped : List Sent) × (length popped ≤ BATCH) × (new.pass.taken ≡ old.pass.taken ++ popped)
    × (after ≡ before ++ filter (λ (t : Ticket). brings links t) (map (λ (s : Sent). s.ticket) popped)))
