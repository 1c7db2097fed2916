-- The links of a bank: a lane for each client and channel.
use Rattle.std.specs.Prelude.{◌≡◌, ◌≢◌, ◌≤◌, ◌<◌, ◌==◌, ℕ, zero, suc, ◌+◌, ◌*◌, ◌%◌, ◌||◌, Bool, false, List, [], ◌∷◌, length, slice_index, slice_index_or, if◌then◌else◌}
use Rattle.std.specs.List.{list_any}
use Rattle.tl_types.specs.Channel.{channel_index}
use Rattle.tl_types.specs.Lane.{Lane, bodies_of, empty_lane}
use Rattle.tl_types.specs.declared.channel.Channel.{Channel}
use Rattle.tl_types.specs.declared.message.Message.{Message}
use Rattle.tl_links.specs.declared.ticket_error.TicketError.{TicketError}
use Rattle.tl_links.specs.declared.ticket_error.TicketError.TheVariants.{NothingThere, NotHead}
use Rattle.tl_links.specs.declared.wanted.Wanted.{Wanted}
use Rattle.tl_links.specs.Wanted.{is_wanted}
use Rattle.tl_types.specs.declared.limits.TheConstants.{CLIENTS, MESSAGES}

-- the bank, how many clients it has, and their channels
pub record LinkTable : Type 0 where
  pub bank : ℕ
  pub clients : ℕ
  pub lanes : List Lane

-- a client's channel
unfoldable pub lane_in : LinkTable → ℕ → Channel → Lane
lane_in table client channel = slice_index_or table.lanes (client * 5 + channel_index channel) empty_lane

-- the bank and the clients stay
pub record SameSize (old new : LinkTable) : Type 0 where
  pub bank : new.bank ≡ old.bank
  pub clients : new.clients ≡ old.clients

-- why a serial is not that of the first message: none waits, or else the first has another
abbrev pub IsNotHead : Lane → ℕ → TicketError → Type 0
IsNotHead lane serial NothingThere = lane.messages ≡ []
IsNotHead lane serial NotHead = (lane.messages ≢ []) × (serial ≢ lane.taken)

-- some client below n has, among a block's messages on a channel, one that is looked for
abbrev pub some_has : LinkTable → Channel → ℕ → Wanted → ℕ → Bool
some_has table channel block wanted zero = false
some_has table channel block wanted (suc n) =
    some_has table channel block wanted n || list_any (is_wanted wanted) (bodies_of block (lane_in table n channel).messages)

-- how many messages wait on a channel of the clients below n
abbrev pub waiting_below : LinkTable → Channel → ℕ → ℕ
waiting_below table channel zero = 0
waiting_below table channel (suc n) = waiting_below table channel n + length (lane_in table n channel).messages

-- of how many messages the last four bits of the block's number are `ending`
abbrev pub ending_in : ℕ → List Message → ℕ
ending_in ending [] = 0
ending_in ending (message ∷ rest) = (if message.block % 16 == ending then 1 else 0) + ending_in ending rest

-- how many messages of such blocks wait on a channel of the clients below n
abbrev pub ending_below : LinkTable → Channel → ℕ → ℕ → ℕ
ending_below table channel ending zero = 0
ending_below table channel ending (suc n) =
    ending_below table channel ending n + ending_in ending (lane_in table n channel).messages

-- By channel and by the last four bits of a block's number, the numbers are those of the messages that wait.
pub record IsCountedByEnding (table : LinkTable) (numbers : List ℕ) : Type 0 where
  pub all : length numbers ≡ 80
  pub numbered : (channel : Channel) (ending : ℕ) → ending < 16
      → slice_index numbers (channel_index channel * 16 + ending) ≡ ending_below table channel ending table.clients

-- Each client has its five channels, with `MESSAGES` messages at most on each; and by channel, the numbers are those of the
-- messages that wait on it.
pub record IsCounted (table : LinkTable) (numbers : List ℕ) : Type 0 where
  pub all : length table.lanes ≡ table.clients * 5
  pub few : table.clients ≤ CLIENTS
  pub most : (client : ℕ) (channel : Channel) → length (lane_in table client channel).messages ≤ MESSAGES
  pub five : length numbers ≡ 5
  pub numbered : (channel : Channel) → slice_index numbers (channel_index channel) ≡ waiting_below table channel table.clients
