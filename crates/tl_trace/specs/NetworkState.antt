-- All banks with their clients' shares and clocks, and which of them a step is asked of (this project's own).
use Rattle.std.specs.Prelude.{◌≡◌, ℕ, suc, ◌<◌, ◌≤◌, List, [], ◌∷◌, length, nat_lt, replicate, slice_get, slice_set, Option, Some, None, if◌then◌else◌}
use Rattle.std.specs.List.{All}
use Rattle.std.specs.Option.{option_map}
use Rattle.tl_map.specs.Numbers.{Numbers}
use Rattle.tl_map.specs.Places.{bank_of, block_of_address, has_block}
use Rattle.tl_script_words.specs.declared.step.Step.{Step}
use Rattle.tl_script_words.specs.declared.step.Step.TheVariants.{Load, Store, Acquire, Release, Ticket, Block}
use Rattle.tl_bank_spec.specs.Coherent.{IsCoherent}
use Rattle.tl_bank_spec.specs.Share.{ShareView, first_shares}
use Rattle.tl_bank_spec.specs.Steps.{Forgets}
use Rattle.tl_bank_spec.specs.View.{View}
use Rattle.tl_bank_spec.specs.Own.{way_at}

-- a bank, and the share of each client in it
pub record SharedBankState : Type 0 where
  pub bank : View
  pub shares : List ShareView

-- all banks, by number, and the clock of each client
pub record NetworkState : Type 0 where
  pub geometry : Numbers
  pub shared_banks : List SharedBankState
  pub clocks : List ℕ

-- the bank with a number, if it is there
abbrev pub bank_at : NetworkState → ℕ → Option View
bank_at network number = option_map (λ (s : SharedBankState). s.bank) (slice_get network.shared_banks number)

-- ## Reset

-- A bank at reset over an image, and shares of nothing.
pub record IsFresh (g : Numbers) (image : List ℕ) (number : ℕ) (shared_bank : SharedBankState) : Type 0 where
  pub bank :
      shared_bank.bank
      ≡ record {
        geometry = g;
        number = number;
        image = image;
        log = [];
        forgotten = 0;
        room = shared_bank.bank.room;
        registers = [];
        ways = shared_bank.bank.ways;
      }
  pub empty : (block : ℕ) → way_at shared_bank.bank block ≡ None
  pub shares : shared_bank.shares ≡ first_shares number g.clients

-- these are banks at reset, with numbers from one on
abbrev pub AreFresh : Numbers → List ℕ → ℕ → List SharedBankState → Type 0
AreFresh g image number [] = Unit {0}
AreFresh g image number (shared_bank ∷ rest) = IsFresh g image number shared_bank × AreFresh g image (suc number) rest

-- Every bank is at reset over the image, and every clock stands at 0.
pub record IsReset (g : Numbers) (image : List ℕ) (network : NetworkState) : Type 0 where
  pub geometry : network.geometry ≡ g
  pub count : length network.shared_banks ≡ g.banks
  pub fresh : AreFresh g image 0 network.shared_banks
  pub clocks : network.clocks ≡ replicate g.clients 0

-- ## Room

-- A bank's log has room for a number of events and at least what it had; nothing else changed.
pub record HasRoom (count : ℕ) (old new : SharedBankState) : Type 0 where
  pub room : ℕ
  pub enough : count ≤ room
  pub grows : old.bank.room ≤ room
  pub is : new ≡ record old { bank = record old.bank { room = room } }

-- The log of a bank with a number has such room; nothing else changed.
pub record IsReserved (number count : ℕ) (old new : NetworkState) : Type 0 where
  pub shared_bank : SharedBankState
  pub left : SharedBankState
  pub is_site : slice_get old.shared_banks number ≡ Some shared_bank
  pub has_room : HasRoom count shared_bank left
  pub is : new ≡ record old { shared_banks = slice_set old.shared_banks number left }

-- There was no memory for such room: nothing changed, and the log of the bank had less.
pub record IsShort (number count : ℕ) (old new : NetworkState) : Type 0 where
  pub same : new ≡ old
  pub shared_bank : SharedBankState
  pub is_site : slice_get old.shared_banks number ≡ Some shared_bank
  pub less : shared_bank.bank.room < count

-- The log of a bank with a number is forgotten so far; nothing else changed.
pub record IsForgotten (number : ℕ) (old new : NetworkState) : Type 0 where
  pub shared_bank : SharedBankState
  pub left : SharedBankState
  pub is_site : slice_get old.shared_banks number ≡ Some shared_bank
  pub forgets : Forgets shared_bank.bank left.bank
  pub shares : left.shares ≡ shared_bank.shares
  pub is : new ≡ record old { shared_banks = slice_set old.shared_banks number left }

-- ## Whenever

-- each of these banks is coherent
abbrev pub AreCoherent : List SharedBankState → Type 0
AreCoherent shared_banks = All (λ (shared_bank : SharedBankState). IsCoherent shared_bank.bank) shared_banks

-- ## What a step is asked of

-- the bank of a block, and bank 0 for a block that is not there
abbrev pub bank_of_block : Numbers → ℕ → ℕ
bank_of_block g block = if has_block g block then bank_of g block else 0

-- the bank that a step names by its address, block or ticket, and bank 0 where that is not there
abbrev pub bank_asked : Numbers → Step → ℕ
bank_asked g (Load client address len) = bank_of_block g (block_of_address g address)
bank_asked g (Store client address bytes) = bank_of_block g (block_of_address g address)
bank_asked g (Acquire client block grow) = bank_of_block g block
bank_asked g (Release client block prune) = bank_of_block g block
bank_asked g (Ticket call ticket) = if nat_lt ticket.bank g.banks then ticket.bank else 0
bank_asked g (Block call block) = bank_of_block g block

-- the client that a step names, itself or by its ticket; a call that has a block alone uses no share and no clock
abbrev pub client_named : Step → ℕ
client_named (Load client address len) = client
client_named (Store client address bytes) = client
client_named (Acquire client block grow) = client
client_named (Release client block prune) = client
client_named (Ticket call ticket) = ticket.client
client_named (Block call block) = 0

-- the place of a client's share among those of a bank, and that of client 0's for a client that is not there
abbrev pub share_place : List ShareView → ℕ → ℕ
share_place shares client = if nat_lt client (length shares) then client else 0
