-- A bank of the network comes to rest (this project's own).
use Rattle.std.specs.Prelude.{◌≡◌, ℕ, List, length, Some, slice_get, slice_set}
use Rattle.tl_protocol.specs.declared.event.Event.{Event}
use Rattle.tl_bank_spec.specs.Own.{IsOwn}
use Rattle.tl_bank_spec.specs.View.{View}
use Rattle.tl_bank_spec.specs.Views.{IsQuiet}
use Rattle.tl_bank_rest.specs.Flushed.{IsFlushed}
use Rattle.tl_bank_rest.specs.Rest.{Receives}
use Rattle.tl_bank_rest.specs.Shares.{AreShares}
use Rattle.tl_trace.specs.NetworkState.{NetworkState, SharedBankState}

-- A bank received something by each of these events, and the shares are its clients' then.
pub record Takes (old new : SharedBankState) (events : List Event) : Type 0 where
  pub receives : Receives old.bank new.bank events
  pub shares : AreShares new.bank new.shares

-- The bank with a number did so; nothing else changed.
pub record TakesAt (number : ℕ) (old new : NetworkState) : Type 0 where
  pub shared_bank : SharedBankState
  pub left : SharedBankState
  pub events : List Event
  pub is_site : slice_get old.shared_banks number ≡ Some shared_bank
  pub takes : Takes shared_bank left events
  pub is : new ≡ record old { shared_banks = slice_set old.shared_banks number left }

-- That bank is as it should be then, and so many events came.
pub record RestsAt (ends : View → Type 0) (number count : ℕ) (old new : NetworkState) : Type 0 where
  pub at : TakesAt number old new
  pub ended : ends at.left.bank
  pub count_is : length at.events ≡ count

-- There was no memory for an event more: the bank's log had no room then.
pub record IsCutShort (number : ℕ) (old new : NetworkState) : Type 0 where
  pub at : TakesAt number old new
  pub room : at.left.bank.room ≡ 0

-- a bank is quiet, and each block of it is in the memory alone
abbrev pub IsAway : View → Type 0
IsAway v = IsQuiet v × ((block : ℕ) → IsOwn v.geometry v.number block → IsFlushed v block)
