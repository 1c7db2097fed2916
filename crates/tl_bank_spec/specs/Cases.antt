-- The cases of refusals: one definition each, which all calls share that test it (this project's own).
use Rattle.std.specs.Prelude.{ℕ, ◌-◌, ◌^◌, ◌==◌, ◌&&◌, ◌||◌, not, Bool, true, false, List, [], ◌∷◌, length, nat_lt, nat_le}
use Rattle.tl_types.specs.Channel.{same_channel}
use Rattle.tl_types.specs.Permission.{rank}
use Rattle.tl_types.specs.declared.channel.Channel.{Channel}
use Rattle.tl_types.specs.declared.message.Body.{Body}
use Rattle.tl_types.specs.declared.message.Body.TheVariants.{Upward as b_Upward, Downward as b_Downward}
use Rattle.tl_types.specs.declared.message.Message.{Message}
use Rattle.tl_types.specs.declared.message.Upward.{Upward}
use Rattle.tl_types.specs.declared.message.Upward.TheVariants.{ProbeAck, Release}
use Rattle.tl_types.specs.declared.permission.Perm.{Perm}
use Rattle.tl_types.specs.declared.ticket.Ticket.{Ticket}
use Rattle.tl_types.specs.declared.wait.Awaited.{Awaited}
use Rattle.tl_types.specs.declared.wait.Awaited.TheVariants.{Nothing, ForGrant, ForReleaseAck}
use Rattle.tl_types.specs.Message.{is_grant}
use Rattle.tl_map.specs.Places.{bank_of, has_block, has_bytes}
use Rattle.tl_bank_spec.specs.Share.{ShareView}
use Rattle.tl_bank_spec.specs.View.{View, client_at, perm_at}
use Rattle.tl_bank_spec.specs.Channels.{lane_at}
use Rattle.tl_bank_spec.specs.Tables.{has_entry, entries_at, copies_at, is_waiting}
use Rattle.tl_bank_spec.specs.Clock.{latest}
use Rattle.tl_types.specs.declared.limits.TheConstants.{MESSAGES}

-- ## Out of range, and of another bank

-- there is no such client
abbrev pub no_client : View → ℕ → Bool
no_client v client = nat_le v.geometry.clients client

-- the block is not of the memory
abbrev pub no_block : View → ℕ → Bool
no_block v block = not (has_block v.geometry block)

-- an access of no byte, of more than eight, or whose bytes do not lie in one block of the memory
abbrev pub bad_access : View → ℕ → ℕ → Bool
bad_access v address len = (len == 0) || nat_lt 8 len || not (has_bytes v.geometry address len)

-- the block is of another bank
abbrev pub elsewhere : View → ℕ → Bool
elsewhere v block = not (bank_of v.geometry block == v.number)

-- a share of another client, or of this bank with another count than the client's copies in it
abbrev pub bad_share : View → ℕ → ShareView → Bool
bad_share v client share =
    not (share.client == client) || ((share.bank == v.number) && not (share.count == copies_at v client))

-- a share of another bank
abbrev pub other_share : View → ShareView → Bool
other_share v share = not (share.bank == v.number)

-- ## What the client has and waits for

-- a load below Branch
abbrev pub may_not_read : View → ℕ → ℕ → Bool
may_not_read v client block = nat_lt (rank (perm_at v client block)) 1

-- a store below Tip
abbrev pub may_not_write : View → ℕ → ℕ → Bool
may_not_write v client block = nat_lt (rank (perm_at v client block)) 2

-- an Acquire or a Release of the block is unanswered
abbrev pub waits : View → ℕ → ℕ → Bool
waits v client block = is_waiting (client_at v client block).wait

-- the copy's permission is another than the one that a grow or prune value starts from
abbrev pub other_perm : View → ℕ → ℕ → Perm → Bool
other_perm v client block from = not (rank (perm_at v client block) == rank from)

-- the client's table is full and has no entry of the block
abbrev pub copies_full : View → ℕ → ℕ → Bool
copies_full v client block =
    not (has_entry (client_at v client block)) && nat_le v.geometry.copies (entries_at v client)

-- what is waited for is a ReleaseAck
abbrev pub awaits_release_ack : Awaited → Bool
awaits_release_ack Nothing = false
awaits_release_ack ForGrant = false
awaits_release_ack ForReleaseAck = true

-- a Release of the block is unanswered
abbrev pub release_pending : View → ℕ → ℕ → Bool
release_pending v client block = awaits_release_ack (client_at v client block).wait

-- the clocks stand at their end
abbrev pub clock_full : View → ℕ → Bool
clock_full v clock = latest v clock == 2 ^ 64 - 1

-- ## Channels and tickets

-- `MESSAGES` messages are on the channel
abbrev pub link_full : View → ℕ → Channel → Bool
link_full v client channel = nat_le MESSAGES (length (lane_at v client channel).messages)

-- no message waits
abbrev pub is_empty : List Message → Bool
is_empty [] = true
is_empty (first ∷ rest) = false

-- the first message is of a kind
abbrev pub begins : (Body → Bool) → List Message → Bool
begins kind [] = false
begins kind (first ∷ rest) = kind first.body

-- the block that the first message speaks of
abbrev pub first_block : List Message → ℕ
first_block [] = 0
first_block (first ∷ rest) = first.block

-- a kind that every message is of
abbrev pub any_body : Body → Bool
any_body body = true

-- the message is a ReleaseAck
abbrev pub is_a_release_ack : Body → Bool
is_a_release_ack (b_Downward message) = not (is_grant message)
is_a_release_ack body = false

-- a message of C is a Release
abbrev pub is_release : Upward → Bool
is_release (ProbeAck answer) = false
is_release (Release surrender) = true

-- the message, of whichever channel, is a Release
abbrev pub is_a_release : Body → Bool
is_a_release (b_Upward message) = is_release message
is_a_release body = false

-- the messages that wait on the channel of a ticket
abbrev pub waiting_at : View → Ticket → Channel → List Message
waiting_at v ticket channel = (lane_at v ticket.client channel).messages

-- the block that a ticket's message speaks of
abbrev pub block_named : View → Ticket → Channel → ℕ
block_named v ticket channel = first_block (waiting_at v ticket channel)

-- the ticket names another channel than the call takes
abbrev pub other_channel : Ticket → Channel → Bool
other_channel ticket channel = not (same_channel ticket.channel channel)

-- the ticket's serial is not the first message's, or that is of another kind than the call takes
abbrev pub not_head : View → Ticket → Channel → (Body → Bool) → Bool
not_head v ticket channel kind =
    not (ticket.serial == (lane_at v ticket.client channel).taken) || not (begins kind (waiting_at v ticket channel))
