-- The clients' calls: each with its refusals, in the order in which they are tested (this project's own).
use Rattle.std.specs.Prelude.{ℕ, ◌||◌, ◌==◌, Bool, List, [], ◌∷◌, ◌++◌, not}
use Rattle.tl_bank_spec.specs.Refusal.{Case}
use Rattle.tl_types.specs.Bodies.{is_a_grant}
use Rattle.tl_types.specs.Permission.{grow_from, prune_from}
use Rattle.tl_types.specs.declared.channel.Channel.{Channel}
use Rattle.tl_types.specs.declared.channel.Channel.TheVariants.{A, B, C, D, E}
use Rattle.tl_types.specs.declared.message.Body.{Body}
use Rattle.tl_types.specs.declared.permission.Grow.{Grow}
use Rattle.tl_types.specs.declared.permission.Prune.{Prune}
use Rattle.tl_types.specs.declared.ticket.Ticket.{Ticket}
use Rattle.tl_map.specs.Places.{block_of_address}
use Rattle.tl_bank_spec.specs.Share.{ShareView}
use Rattle.tl_bank_spec.specs.View.{View}
use Rattle.tl_bank_spec.specs.Cases.{no_client, no_block, bad_access, elsewhere, bad_share, other_share, may_not_read, may_not_write, waits, other_perm, copies_full, release_pending, clock_full, link_full, is_empty, any_body, is_a_release_ack, waiting_at, block_named, other_channel, not_head}
use Rattle.tl_bank_spec.specs.declared.refusal.Refusal.TheVariants.{NoPermission, Waiting, WrongFrom, NothingThere, NotHead, ReleasePending, OutOfRange, WrongBank, CopiesFull, LinkFull, ClockFull}

-- the block of an address
abbrev pub block_named_by : View → ℕ → ℕ
block_named_by v address = block_of_address v.geometry address

-- the cases in which a load is refused, in the order in which they are tested
abbrev pub load_cases : View → ℕ → ℕ → ℕ → ℕ → List Case
load_cases v client address len clock =
    (no_client v client || bad_access v address len, OutOfRange)
    ∷ (elsewhere v (block_named_by v address), WrongBank)
    ∷ (may_not_read v client (block_named_by v address), NoPermission)
    ∷ (clock_full v clock, ClockFull) ∷ []

-- the cases in which a store is refused, in the order in which they are tested
abbrev pub store_cases : View → ℕ → ℕ → ℕ → ℕ → List Case
store_cases v client address len clock =
    (no_client v client || bad_access v address len, OutOfRange)
    ∷ (elsewhere v (block_named_by v address), WrongBank)
    ∷ (may_not_write v client (block_named_by v address), NoPermission)
    ∷ (clock_full v clock, ClockFull) ∷ []

-- the cases in which a client's Acquire is refused, in the order in which they are tested
abbrev pub acquire_cases : View → ℕ → ℕ → Grow → List Case
acquire_cases v client block grow =
    (no_client v client || no_block v block, OutOfRange)
    ∷ (elsewhere v block, WrongBank)
    ∷ (waits v client block, Waiting)
    ∷ (other_perm v client block (grow_from grow), WrongFrom)
    ∷ (copies_full v client block, CopiesFull)
    ∷ (link_full v client A, LinkFull) ∷ []

-- the cases in which a client's Release is refused, in the order in which they are tested
abbrev pub release_cases : View → ℕ → ℕ → Prune → ShareView → List Case
release_cases v client block prune share =
    (no_client v client || no_block v block || bad_share v client share, OutOfRange)
    ∷ (elsewhere v block || other_share v share, WrongBank)
    ∷ (waits v client block, Waiting)
    ∷ (other_perm v client block (prune_from prune), WrongFrom)
    ∷ (link_full v client C, LinkFull) ∷ []

-- Whether a ticket is that of the first message: it names the channel, a message waits there, and it names that one.
abbrev pub message_cases : View → Ticket → Channel → (Body → Bool) → List Case
message_cases v ticket channel kind =
    (other_channel ticket channel, NotHead)
    ∷ (is_empty (waiting_at v ticket channel), NothingThere)
    ∷ (not_head v ticket channel kind, NotHead) ∷ []

-- A ticket's tests: its client and bank are there, and it is that of the first message.
abbrev pub ticket_cases : View → Ticket → Channel → (Body → Bool) → List Case
ticket_cases v ticket channel kind =
    (no_client v ticket.client, OutOfRange) ∷ (not (ticket.bank == v.number), WrongBank) ∷ message_cases v ticket channel kind

-- The same where the call takes a share as well.
abbrev pub shared_ticket_cases : View → Ticket → ShareView → Channel → (Body → Bool) → List Case
shared_ticket_cases v ticket share channel kind =
    (no_client v ticket.client || bad_share v ticket.client share, OutOfRange)
    ∷ (not (ticket.bank == v.number) || other_share v share, WrongBank)
    ∷ message_cases v ticket channel kind

-- the cases in which the answer to a Probe is refused, in the order in which they are tested
abbrev pub answer_probe_cases : View → Ticket → ShareView → List Case
answer_probe_cases v ticket share =
    shared_ticket_cases v ticket share B any_body
    ++ (release_pending v ticket.client (block_named v ticket B), ReleasePending)
    ∷ (link_full v ticket.client C, LinkFull) ∷ []

-- the cases in which the taking of a Grant is refused, in the order in which they are tested
abbrev pub take_grant_cases : View → Ticket → ShareView → List Case
take_grant_cases v ticket share = shared_ticket_cases v ticket share D is_a_grant ++ (link_full v ticket.client E, LinkFull) ∷ []

-- the cases in which the taking of a ReleaseAck is refused, in the order in which they are tested
abbrev pub take_release_ack_cases : View → Ticket → List Case
take_release_ack_cases v ticket = ticket_cases v ticket D is_a_release_ack
