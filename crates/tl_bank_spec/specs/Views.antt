-- What the views of a bank show (this project's own).
use Rattle.std.specs.Prelude.{◌≡◌, ◌≢◌, ℕ, zero, suc, ◌<◌, ◌==◌, ◌||◌, not, Bool, List, [], ◌∷◌, ◌++◌, length, map, slice_get, Option, Some, None, is_some, ◌+◌, if◌then◌else◌}
use Rattle.std.specs.Option.{option_map}
use Rattle.tl_types.specs.Lane.{message_at}
use Rattle.tl_types.specs.declared.channel.Channel.{Channel}
use Rattle.tl_types.specs.declared.message.Message.{Message}
use Rattle.tl_types.specs.declared.permission.Perm.{Perm}
use Rattle.tl_types.specs.declared.permission.Perm.TheVariants.{None as p_None, Tip}
use Rattle.tl_types.specs.declared.ticket.Ticket.{Ticket}
use Rattle.tl_types.specs.declared.wait.Awaited.TheVariants.{Nothing}
use Rattle.tl_map.specs.Places.{block_of_address, offset_of}
use Rattle.tl_protocol.specs.Copy.{bytes_of}
use Rattle.tl_protocol.specs.Ledger.{count_pairs}
use Rattle.tl_protocol.specs.declared.client.Client.{Client}
use Rattle.tl_protocol.specs.declared.home.Line.{Line}
use Rattle.tl_protocol.specs.declared.home.Outward.{Outward}
use Rattle.tl_protocol.specs.declared.home.Outward.TheVariants.{Quiet, Get, Data, Put, PutAck}
use Rattle.tl_protocol_lanes.specs.Delivery.{all_sent, all_taken}
use Rattle.tl_registers.specs.declared.register.Register.{Register}
use Rattle.tl_bank_spec.specs.Cases.{no_client, no_block, elsewhere}
use Rattle.tl_bank_spec.specs.View.{View, end_at, client_at, perm_at, shape_of}
use Rattle.tl_bank_spec.specs.Own.{IsOwn}
use Rattle.tl_bank_spec.specs.Tables.{copies_at}
use Rattle.tl_bank_spec.specs.Channels.{lane_at}

-- ## What the bank does not have

-- a block that is not of the memory, or of another bank
abbrev pub not_own : View → ℕ → Bool
not_own v block = no_block v block || elsewhere v block

-- a client that is not there, or such a block
abbrev pub no_part : View → ℕ → ℕ → Bool
no_part v client block = no_client v client || not_own v block

-- ## Clients

-- the permission that home records for a client; None where there is no such client or block
abbrev pub recorded_at : View → ℕ → ℕ → Perm
recorded_at v client block = if no_part v client block then p_None else (client_at v client block).recorded

-- what a client may do with a block; None where there is no such client or block
abbrev pub copy_perm_at : View → ℕ → ℕ → Perm
copy_perm_at v client block = if no_part v client block then p_None else perm_at v client block

-- the byte at an address of a client's copy, where it has one
abbrev pub byte_at : View → ℕ → ℕ → Option ℕ
byte_at v client address =
    slice_get (bytes_of (client_at v client (block_of_address v.geometry address)).held) (offset_of v.geometry address)

-- the same; None also where there is no such client or address
abbrev pub peeked : View → ℕ → ℕ → Option ℕ
peeked v client address = if no_part v client (block_of_address v.geometry address) then None else byte_at v client address

-- a client of the bank has a copy that may be read at an address
abbrev pub MayRead : View → ℕ → ℕ → Type 0
MayRead v client address =
    (client < v.geometry.clients)
    × IsOwn v.geometry v.number (block_of_address v.geometry address)
    × (perm_at v client (block_of_address v.geometry address) ≢ p_None)

-- a client of the bank has a copy of one of its blocks
abbrev pub HasCopy : View → ℕ → ℕ → Type 0
HasCopy v client block = (client < v.geometry.clients) × IsOwn v.geometry v.number block × (perm_at v client block ≢ p_None)

-- a client of the bank has a copy of one of its blocks that may be written
abbrev pub MayWrite : View → ℕ → ℕ → Type 0
MayWrite v client block = (client < v.geometry.clients) × IsOwn v.geometry v.number block × (perm_at v client block ≡ Tip)

-- the message that a ticket names, where it waits; None where the ticket is of no client that is there, or of another bank
abbrev pub in_flight_at : View → Ticket → Option Message
in_flight_at v ticket =
    if no_client v ticket.client || not (ticket.bank == v.number) then None
    else message_at (lane_at v ticket.client ticket.channel) ticket.serial

-- Each message of a channel is taken once, in the order of sending: what the log's events send there is what they take, each from its
-- own block's list, and then what waits; and as many were taken as the serial of the first that waits says.
abbrev pub IsDelivered : View → ℕ → Channel → Type 0
IsDelivered v client channel =
    (all_sent (shape_of v.geometry) v.image v.log client channel
    ≡ all_taken (shape_of v.geometry) v.image v.log client channel ++ (lane_at v client channel).messages)
    × (length (all_taken (shape_of v.geometry) v.image v.log client channel) ≡ (lane_at v client channel).taken)

-- ## Home

-- the dirty flag of home's copy, where home has one
abbrev pub dirty_at : View → ℕ → Option Bool
dirty_at v block = if not_own v block then None else option_map (λ (line : Line). line.dirty) (end_at v block).home

-- whether home has a copy of a block of the bank
abbrev pub is_at_home : View → ℕ → Bool
is_at_home v block = is_some (dirty_at v block)

-- the numbers below n that pass a test, by rising number
abbrev pub passing_below : (ℕ → Bool) → ℕ → List ℕ
passing_below test zero = []
passing_below test (suc n) = if test n then passing_below test n ++ n ∷ [] else passing_below test n

-- the blocks of the bank of which home has a copy, by rising number
abbrev pub blocks_at_home : View → List ℕ
blocks_at_home v = passing_below (is_at_home v) v.geometry.memory_blocks

-- what passes, where anything does
abbrev pub passing : Outward → Option Outward
passing Quiet = None
passing Get = Some Get
passing (Data bytes) = Some (Data bytes)
passing (Put bytes) = Some (Put bytes)
passing PutAck = Some PutAck

-- what passes of a block between home and the memory, where anything does
abbrev pub outward_at : View → ℕ → Option Outward
outward_at v block = if not_own v block then None else passing (end_at v block).outward

-- the own blocks of the open registers, by the age of the registers
abbrev pub own_blocks : View → List ℕ
own_blocks v = map (λ (r : Register). r.own) v.registers

-- ## Nothing is under way

-- no message waits on a channel of a client
abbrev pub HasNoMessage : View → ℕ → Type 0
HasNoMessage v client = (channel : Channel) → (lane_at v client channel).messages ≡ []

-- a client waits for no answer about a block of the bank
abbrev pub AwaitsNothing : View → ℕ → Type 0
AwaitsNothing v client = (block : ℕ) → IsOwn v.geometry v.number block → (client_at v client block).wait ≡ Nothing

-- No register is open, no message waits, no client waits for an answer, and nothing passes between home and the memory.
pub record IsQuiet (v : View) : Type 0 where
  pub registers : v.registers ≡ []
  pub messages : (client : ℕ) → client < v.geometry.clients → HasNoMessage v client
  pub waits : (client : ℕ) → client < v.geometry.clients → AwaitsNothing v client
  pub outward : (block : ℕ) → IsOwn v.geometry v.number block → (end_at v block).outward ≡ Quiet

-- ## Counts

-- the blocks of the bank below a number
abbrev pub blocks_below : View → ℕ → List ℕ
blocks_below v zero = []
blocks_below v (suc n) = if not_own v n then blocks_below v n else n ∷ blocks_below v n

-- how many pairs of a client and a block of the bank below a number pass a test
abbrev pub pairs_below : (Client → Bool) → View → ℕ → ℕ
pairs_below test v n = count_pairs test (shape_of v.geometry) (end_at v) (blocks_below v n)

-- how many pairs of a client and a block of the bank pass a test
abbrev pub pairs_at : (Client → Bool) → View → ℕ
pairs_at test v = pairs_below test v v.geometry.memory_blocks

-- how many copies the first n clients have
abbrev pub copies_below : View → ℕ → ℕ
copies_below v zero = 0
copies_below v (suc n) = copies_below v n + copies_at v n
