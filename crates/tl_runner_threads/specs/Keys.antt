-- Which passes and seats are a mailbox's. No public clause cites this module.
use Rattle.std.specs.Prelude.{◌≡◌, ℕ, List, [], ◌∷◌, vec_len}
use Rattle.std.specs.List.{All}
use Rattle.tl_tickets.specs.Inbox.{IsReceiverOf, IsSenderOf}
use Rattle.tl_tickets.specs.Bell.{IsSeatOf}
use Rattle.tl_runner_threads.specs.declared.mailbox.Mailbox.{Mailbox}
use Rattle.tl_runner_threads.specs.declared.mailbox.Keys.{Keys}

-- These are the passes and seats of a mailbox, for so many senders.
pub record Fits (senders : ℕ) (mailbox : Mailbox) (keys : Keys) : Type 0 where
  pub receiver : IsReceiverOf mailbox.inbox keys.receiver
  pub passes : All (IsSenderOf mailbox.inbox) keys.senders.items
  pub own : IsSeatOf mailbox.bell keys.own
  pub seats : All (IsSeatOf mailbox.bell) keys.seats.items
  pub as_many_passes : vec_len keys.senders ≡ senders
  pub as_many_seats : vec_len keys.seats ≡ senders

-- as many rows as mailboxes, and each row is that of its mailbox
abbrev pub FitEach : ℕ → List Mailbox → List Keys → Type 0
FitEach senders [] [] = Unit {0}
FitEach senders (mailbox ∷ mailboxes) (keys ∷ rows) = Fits senders mailbox keys × FitEach senders mailboxes rows
FitEach senders [] (keys ∷ rows) = ⊥
FitEach senders (mailbox ∷ mailboxes) [] = ⊥
