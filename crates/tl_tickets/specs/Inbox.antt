-- An inbox and its passes, as their callers see them. This is the project's own: TileLink leaves open how a receiver learns of a message.
use Rattle.std.specs.Prelude.{◌≡◌, ℕ, zero, suc, ◌+◌, ◌<◌, ◌≤◌, ◌==◌, cond, List, [], ◌∷◌, ◌++◌, length, count_by}
use Rattle.std.specs.List.{AllByRecursion}
use Rattle.std.specs.List.{All}
use Rattle.atomic_table.specs.Seated.{TableId}
use Rattle.tl_tickets.specs.declared.sent.Sent.{Sent}
use Rattle.tl_types.specs.declared.ticket.Ticket.{Ticket}

-- an inbox: which one it is, how many tickets it has room for, and how many senders
pub record InboxView : Type 0 where
  pub table : TableId
  pub capacity : ℕ
  pub senders : ℕ

-- a pass: the inbox that gave it out, its own number, what was put with it and what was taken with it, and how many tickets at least wait behind
-- the one taken last. The receiver's number is 0, and the senders' are 1 and on
pub record PassView : Type 0 where
  pub table : TableId
  pub senders : ℕ
  pub number : ℕ
  pub put : List Ticket
  pub taken : List Sent
  pub behind : ℕ

-- the inbox gave out this pass
abbrev pub IsPassOf : InboxView → PassView → Type 0
IsPassOf inbox pass = (pass.table ≡ inbox.table) × (pass.senders ≡ inbox.senders)

-- it is a pass of one of this inbox's senders
abbrev pub IsSenderOf : InboxView → PassView → Type 0
IsSenderOf inbox pass = IsPassOf inbox pass × (0 < pass.number)

-- it is the pass of this inbox's receiver
abbrev pub IsReceiverOf : InboxView → PassView → Type 0
IsReceiverOf inbox pass = IsPassOf inbox pass × (pass.number ≡ 0)

-- the same pass, with whatever was put and taken with it since
abbrev pub IsSamePass : PassView → PassView → Type 0
IsSamePass old new = (new.table ≡ old.table) × (new.senders ≡ old.senders) × (new.number ≡ old.number)

-- a ticket of the sender s
abbrev pub sent : ℕ → Ticket → Sent
sent s t = record { sender = s; ticket = t }

-- the pass, after a ticket was put with it
abbrev pub after_put : PassView → Ticket → PassView
after_put pass t = record pass { put = pass.put ++ t ∷ [] }

-- the pass, after a ticket of the sender s was taken with it, behind which so many wait
abbrev pub after_take : PassView → ℕ → Ticket → ℕ → PassView
after_take pass s t rest = record pass { taken = pass.taken ++ sent s t ∷ []; behind = rest }

-- the tickets of the sender s, in order
abbrev pub tickets_of : ℕ → List Sent → List Ticket
tickets_of s [] = []
tickets_of s (x ∷ xs) = cond (x.sender == s) (x.ticket ∷ tickets_of s xs) (tickets_of s xs)

-- each ticket is of one of n senders
abbrev pub AreFrom : ℕ → List Sent → Type 0
AreFrom n xs = AllByRecursion (λ (x : Sent). (0 < x.sender) × (x.sender ≤ n)) xs

-- what was taken of a sender, followed by what waits of it, is what it put
abbrev pub Accounts : List Sent → List Sent → PassView → Type 0
Accounts taken waiting sender = sender.put ≡ tickets_of sender.number taken ++ tickets_of sender.number waiting

-- the inbox can have been full: as many tickets of its senders waited as it has room for, and the sender's account was right. With one sender
-- these are the sender's own, so it had put at least so many
abbrev pub WasFull : InboxView → PassView → Type 0
WasFull inbox sender = (taken waiting : List Sent) × (length waiting ≡ inbox.capacity) × AreFrom inbox.senders (taken ++ waiting) × Accounts taken waiting sender

-- each pass of an inbox with this many senders is there once
abbrev pub IsEachOnce : ℕ → List PassView → Type 0
IsEachOnce senders passes = (length passes ≡ senders + 1) × ((k : ℕ) → k ≤ senders → count_by (λ (p : PassView). p.number == k) passes ≡ 1)

-- with n tickets that wait, the account of each sender with the receiver is right, and the receiver knew of no more
abbrev pub Settles : ℕ → List PassView → ℕ → Type 0
Settles senders passes n = (waiting : List Sent) × (length waiting ≡ n) × AreFrom senders waiting
    × All (λ (receiver : PassView). receiver.number ≡ 0 → (receiver.behind ≤ n) × All (λ (sender : PassView). 0 < sender.number → Accounts receiver.taken waiting sender) passes) passes

-- a pass as it is given out
abbrev pub fresh_pass : InboxView → ℕ → PassView
fresh_pass inbox number = record { table = inbox.table; senders = inbox.senders; number = number; put = []; taken = []; behind = 0 }

-- the first n senders' passes as they are given out
abbrev pub fresh_senders : InboxView → ℕ → List PassView
fresh_senders inbox zero = []
fresh_senders inbox (suc n) = fresh_senders inbox n ++ fresh_pass inbox (suc n) ∷ []

-- the receiver's pass, and then the senders'
abbrev pub fresh_passes : InboxView → List PassView
fresh_passes inbox = fresh_pass inbox 0 ∷ fresh_senders inbox inbox.senders
