-- What the views of a cache answer: each what its bank's view shows. They are told apart: 10 is what is not there, 4 an empty place,
-- 16 no such view, 17 no such channel.
use Rattle.std.specs.Prelude.{◌≡◌, ◌≢◌, ◌<◌, ◌≤◌, ◌+◌, ℕ, ◌==◌, Bool, true, false, List, length, nat_lt, slice_get, Option, Some, None, if◌then◌else◌}
use Rattle.std.specs.List.{count_by}
use Rattle.std.specs.List.Sorted.{IsNonDecreasing, IsPermutation}
use Rattle.tl_types.specs.Permission.{rank}
use Rattle.tl_types.specs.declared.channel.Channel.{Channel}
use Rattle.tl_types.specs.declared.message.Message.{Message}
use Rattle.tl_types.specs.declared.ticket.Ticket.{Ticket}
use Rattle.tl_types.specs.declared.wait.Awaited.{Awaited}
use Rattle.tl_types.specs.declared.wait.Awaited.TheVariants.{Nothing, ForGrant, ForReleaseAck}
use Rattle.tl_map.specs.Places.{bank_of, block_of_address, has_block}
use Rattle.tl_protocol.specs.Ledger.{has_copy, is_recorded}
use Rattle.tl_protocol.specs.declared.copy.CachedCopy.{CachedCopy}
use Rattle.tl_protocol.specs.declared.copy.CachedCopy.TheVariants.{Absent, Readable, Writable}
use Rattle.tl_protocol.specs.declared.home.Line.{Line}
use Rattle.tl_bank.specs.Contents.{copy_at, line_at, memory_at, message_waiting, wait_at}
use Rattle.tl_bank_spec.specs.Cases.{no_client}
use Rattle.tl_bank_spec.specs.Tables.{copies_at}
use Rattle.tl_bank_spec.specs.View.{View}
use Rattle.tl_bank_spec.specs.Views.{IsQuiet, copy_perm_at, outward_at, own_blocks, pairs_at, peeked, recorded_at}
use Rattle.tl_trace.specs.NetworkState.{NetworkState, bank_at}
use Rattle.tl_embed.specs.Asked.{channel_at, ticket_named}
use Rattle.tl_embed.specs.Events.{event_number, event_shown}
use Rattle.tl_embed.specs.Next.{NextTold}
use Rattle.tl_embed.specs.Told.{kept_events, message_of, message_told, number_told, only, outward_told, with_bytes}
use Rattle.tl_embed.specs.declared.answer.Answer.{Answer}
use Rattle.tl_embed.specs.declared.request.Request.{Request}

-- ## Of a block, at the bank where it lies

-- the bank where a block lies, if the memory has it
abbrev pub home_of : NetworkState → ℕ → Option View
home_of network block = if has_block network.geometry block then bank_at network (bank_of network.geometry block) else None

-- the same, if there is the client as well
abbrev pub bank_for : NetworkState → ℕ → ℕ → Option View
bank_for network client block = if nat_lt client network.geometry.clients then home_of network block else None

-- what a bank shows, if it is there
abbrev pub shown_by : Option View → (View → Answer) → Answer
shown_by None show = only 10
shown_by (Some v) show = show v

-- a byte, or that the client may not read it
abbrev pub byte_told : Option ℕ → Answer
byte_told None = only 1
byte_told (Some byte) = number_told byte

-- 1 for a clean copy of home's, 2 for a dirty one
abbrev pub dirty_number : Bool → ℕ
dirty_number false = 1
dirty_number true = 2

-- 0 where home has no copy; else whether it is dirty, and its bytes
abbrev pub home_told : Option Line → Answer
home_told None = number_told 0
home_told (Some line) = with_bytes line.bytes (number_told (dirty_number line.dirty))

-- the memory's bytes of a block
abbrev pub memory_told : Option (List ℕ) → Answer
memory_told None = only 10
memory_told (Some bytes) = with_bytes bytes (record (only 0) { what = 8 })

-- a client's copy: 0 for none; 1 at Branch, 2 at Tip and clean, 3 at Tip and dirty, with its bytes
abbrev pub copy_told : CachedCopy → Answer
copy_told Absent = number_told 0
copy_told (Readable bytes) = with_bytes bytes (number_told 1)
copy_told (Writable bytes dirty) = with_bytes bytes (number_told (dirty_number dirty + 1))

-- the same, if the bank has the client and the block
abbrev pub copy_or_none : Option CachedCopy → Answer
copy_or_none None = only 10
copy_or_none (Some copy) = copy_told copy

-- what a client waits for: 0 for nothing, 1 for a Grant, 2 for a ReleaseAck
abbrev pub awaited_number : Awaited → ℕ
awaited_number Nothing = 0
awaited_number ForGrant = 1
awaited_number ForReleaseAck = 2

-- the same, if the bank has the client and the block
abbrev pub awaited_told : Option Awaited → Answer
awaited_told None = only 10
awaited_told (Some awaited) = number_told (awaited_number awaited)

-- a view of a block
abbrev pub block_told : NetworkState → Request → Answer
block_told network r =
    if r.call == 20 then shown_by (bank_for network r.client r.place) (λ v. number_told (rank (copy_perm_at v r.client r.place)))
    else if r.call == 21 then shown_by (bank_for network r.client r.place) (λ v. number_told (rank (recorded_at v r.client r.place)))
    else if r.call == 22 then
    shown_by (bank_for network r.client (block_of_address network.geometry r.place)) (λ v. byte_told (peeked v r.client r.place))
    else if r.call == 23 then shown_by (home_of network r.place) (λ v. home_told (line_at v r.place))
    else if r.call == 24 then shown_by (home_of network r.place) (λ v. outward_told (outward_at v r.place))
    else if r.call == 37 then shown_by (bank_for network r.client r.place) (λ v. copy_or_none (copy_at v r.client r.place))
    else if r.call == 38 then shown_by (bank_for network r.client r.place) (λ v. awaited_told (wait_at v r.client r.place))
    else if r.call == 39 then shown_by (home_of network r.place) (λ v. number_told v.number)
    else shown_by (home_of network r.place) (λ v. memory_told (memory_at v r.place))

-- ## Of a bank

-- how many copies a client has, or that it is not there
abbrev pub copies_told : Option ℕ → Answer
copies_told None = only 10
copies_told (Some copies) = number_told copies

-- how many of the events that are not forgotten are of a kind, or that there is no such kind
abbrev pub count_told : View → ℕ → Answer
count_told v kind =
    if nat_lt kind 18 then number_told (count_by (λ e. event_number e == kind) (kept_events v)) else only 17

-- a view of a bank
abbrev pub bank_told : View → Request → Answer
bank_told v r =
    if r.call == 25 then number_told (pairs_at has_copy v)
    else if r.call == 26 then number_told (pairs_at is_recorded v)
    else if r.call == 27 then number_told (length v.log)
    else if r.call == 29 then number_told v.room
    else if r.call == 36 then number_told v.forgotten
    else if r.call == 41 then count_told v r.param
    else copies_told (if no_client v r.client then None else Some (copies_at v r.client))

-- 1 where nothing is under way in a bank, else 0
pub record QuietTold (v : View) (told : Answer) : Type 0 where
  pub quiet : IsQuiet v → told ≡ number_told 1
  pub busy : (IsQuiet v → ⊥) → told ≡ number_told 0

-- a block, or that the list has no such place
abbrev pub number_or_none : Option ℕ → Answer
number_or_none None = only 4
number_or_none (Some n) = number_told n

-- the own block of an open register, by its place among them by rising number
pub record OpenTold (v : View) (place : ℕ) (told : Answer) : Type 0 where
  pub blocks : List ℕ
  pub all : IsPermutation (own_blocks v) blocks
  pub rising : IsNonDecreasing blocks
  pub told_is : told ≡ number_or_none (slice_get blocks place)

-- a message that waits with its ticket, or that none waits at that place
abbrev pub waiting_or_none : Option (Ticket × Message) → Answer
waiting_or_none None = only 4
waiting_or_none (Some waiting) = message_told waiting.0 waiting.1.body waiting.1.block

-- the message at a place among those that wait on a channel, or that there is no such channel or client
abbrev pub waiting_told : View → ℕ → Option Channel → ℕ → Answer
waiting_told v client None place = only 17
waiting_told v client (Some channel) place =
    if no_client v client then only 10 else waiting_or_none (message_waiting v client channel place)

-- a view of a bank
pub record BankTells (v : View) (r : Request) (told : Answer) : Type 0 where
  pub event : r.call ≡ 28 → told ≡ event_shown v r.serial
  pub quiet : r.call ≡ 31 → QuietTold v told
  pub open_block : r.call ≡ 32 → OpenTold v r.serial told
  pub waiting : r.call ≡ 34 → told ≡ waiting_told v r.client (channel_at r.channel) r.serial
  pub next : r.call ≡ 40 → NextTold v told
  pub other : r.call ≢ 28 → r.call ≢ 31 → r.call ≢ 32 → r.call ≢ 34 → r.call ≢ 40 → told ≡ bank_told v r

-- ## Of a ticket

-- the message that a ticket names, or that it waits no more or not yet
abbrev pub message_or_none : Ticket → Option Message → Answer
message_or_none ticket None = only 4
message_or_none ticket (Some message) = message_told ticket message.body message.block

-- the message that a ticket names
abbrev pub ticket_told : NetworkState → Option Ticket → Answer
ticket_told network None = only 17
ticket_told network (Some ticket) = message_or_none ticket (message_of network ticket)

-- ## All views

-- the bank that is asked tells, or is not there
abbrev pub BankShows : Option View → Request → Answer → Type 0
BankShows None r told = told ≡ only 10
BankShows (Some v) r told = BankTells v r told

-- What a request that asks for no step is answered.
pub record Views (network : NetworkState) (r : Request) (told : Answer) : Type 0 where
  pub block : 20 ≤ r.call → r.call ≤ 24 → told ≡ block_told network r
  pub bank : 25 ≤ r.call → r.call ≤ 32 → BankShows (bank_at network r.bank) r told
  pub message : r.call ≡ 33 → told ≡ ticket_told network (ticket_named r)
  pub waiting : r.call ≡ 34 → BankShows (bank_at network r.bank) r told
  pub memory : r.call ≡ 35 → told ≡ block_told network r
  pub forgotten : r.call ≡ 36 → BankShows (bank_at network r.bank) r told
  pub copy : 37 ≤ r.call → r.call ≤ 39 → told ≡ block_told network r
  pub below : r.call < 20 → told ≡ only 16
  pub next : r.call ≡ 40 → BankShows (bank_at network r.bank) r told
  pub count : r.call ≡ 41 → BankShows (bank_at network r.bank) r told
  pub above : 41 < r.call → told ≡ only 16
