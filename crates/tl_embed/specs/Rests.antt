-- All banks come to rest, one after another (this project's own).
use Rattle.std.specs.Prelude.{◌≡◌, ◌⊎◌, ℕ, zero, suc, ◌+◌, ◌-◌, ◌^◌, ◌<◌, ◌≤◌, List, length, min, Option, Some, None, slice_get}
use Rattle.tl_protocol.specs.declared.event.Event.{Event}
use Rattle.tl_bank_spec.specs.View.{View}
use Rattle.tl_trace.specs.NetworkState.{NetworkState, SharedBankState, bank_at}
use Rattle.tl_trace.specs.Rests.{IsCutShort, Takes}
use Rattle.tl_embed.specs.Told.{number_told, only}
use Rattle.tl_embed.specs.declared.answer.Answer.{Answer}

-- how many events the log of a bank has, none where it is not there
abbrev pub logged_in : Option View → ℕ
logged_in None = 0
logged_in (Some v) = length v.log

-- how many the logs of the first n banks have
abbrev pub logged_below : NetworkState → ℕ → ℕ
logged_below network zero = 0
logged_below network (suc n) = logged_below network n + logged_in (bank_at network n)

-- The bank with a number received something by each of some events, and is as it should be then.
pub record HasRested (ends : View → Type 0) (new : NetworkState) (number : ℕ) (before : SharedBankState) : Type 0 where
  pub after : SharedBankState
  pub events : List Event
  pub is : slice_get new.shared_banks number ≡ Some after
  pub takes : Takes before after events
  pub ended : ends after.bank

-- The first banks, as many as `place`, have rested, and so many events came in all; the others are as they were.
pub record RestBelow (ends : View → Type 0) (place count : ℕ) (old new : NetworkState) : Type 0 where
  pub is : new ≡ record old { shared_banks = new.shared_banks }
  pub rested :
      (number : ℕ) (before : SharedBankState) → number < place → slice_get old.shared_banks number ≡ Some before
      → HasRested ends new number before
  pub behind : (number : ℕ) → place ≤ number → slice_get new.shared_banks number ≡ slice_get old.shared_banks number
  pub came : logged_below new place ≡ logged_below old place + count

-- All banks have rested; so many events are told, the greatest number where they are more.
pub record AllRest (ends : View → Type 0) (told : ℕ) (old new : NetworkState) : Type 0 where
  pub count : ℕ
  pub all : RestBelow ends old.geometry.banks count old new
  pub told_is : told ≡ min count (2 ^ 64 - 1)

-- A bank found no memory for an event more, after those before it rested; those behind it are as they were.
pub record AreCutShort (ends : View → Type 0) (old new : NetworkState) : Type 0 where
  pub place : ℕ
  pub inside : place < old.geometry.banks
  pub count : ℕ
  pub mid : NetworkState
  pub first : RestBelow ends place count old mid
  pub cut : IsCutShort place mid new

-- All banks rested, and how many events came is told; or there was no memory.
abbrev pub Rests : (View → Type 0) → NetworkState → NetworkState → Answer → Type 0
Rests ends old new told =
    ((count : ℕ) × AllRest ends count old new × (told ≡ number_told count)) ⊎ (AreCutShort ends old new × (told ≡ only 14))
