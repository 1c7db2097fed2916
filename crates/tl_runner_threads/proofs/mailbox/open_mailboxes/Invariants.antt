use Rattle.std.proofs.Common.{◌≡◌, vec_len}
use Rattle.std.specs.List.{All}
use Rattle.tl_runner_threads.specs.Keys.{FitEach}
use Rattle.tl_runner_threads.specs.declared.mailbox.Mailbox.{Mailbox}
use Rattle.tl_runner_threads.proofs.mailbox.open_mailboxes.Given as goal

-- the rows so far are those of the mailboxes so far
abbrev pub invariant-loop : goal.invariant-loop
invariant-loop l =
    FitEach l.fn.senders l.mailboxes.items l.rows.items × (vec_len l.rows ≡ l.counter)
    × All (λ (m : Mailbox). m.inbox.capacity ≡ l.fn.capacity) l.mailboxes.items
