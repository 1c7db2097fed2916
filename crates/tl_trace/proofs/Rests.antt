-- A bank of the network that rests is back in its place.
use Rattle.std.proofs.Common.{◌≡◌, ℕ, ◌<◌, List, length, get_or, Some, Result, Ok, Err, slice_set, sym, ◌∙◌, ap}
use Rattle.std.specs.Prelude.{IfErr, IfOk, MatchResult, OnOk}
use Rattle.std.proofs.lemmas.Option.{slice_get-get_or}
use Rattle.tl_protocol.specs.declared.event.Event.{Event}
use Rattle.tl_bank_spec.specs.View.{View}
use Rattle.tl_bank_spec.specs.declared.refusal.Refusal.{Refusal}
use Rattle.tl_bank_spec.specs.declared.refusal.Refusal.TheVariants.{Memory}
use Rattle.tl_trace.specs.NetworkState.{NetworkState, SharedBankState}
use Rattle.tl_trace.specs.Rests.{IsCutShort, RestsAt, Takes, TakesAt}

-- what it took
abbrev takes-at : (number : ℕ) (old new : NetworkState) (shared_bank other left : SharedBankState) (events : List Event)
    → number < length old.shared_banks → shared_bank ≡ get_or old.shared_banks number other → Takes shared_bank left events
    → new ≡ record old { shared_banks = slice_set old.shared_banks number left } → TakesAt number old new
takes-at number old new shared_bank other left events inside is takes made = record {
  shared_bank = shared_bank;
  left = left;
  events = events;
  is_site = slice_get-get_or old.shared_banks number other inside ∙ ap (λ (s : SharedBankState). Some s) (sym is);
  takes = takes;
  is = made;
}

-- and how it ended
pub rests-at : (ends : View → Type 0) (number : ℕ) (old new : NetworkState) (shared_bank other left : SharedBankState)
    (result : Result ℕ Refusal) → number < length old.shared_banks → shared_bank ≡ get_or old.shared_banks number other
    → ((events : List Event) × Takes shared_bank left events × IfOk result (λ count. length events ≡ count))
    → IfErr result (λ refusal. (refusal ≡ Memory) × (left.bank.room ≡ 0)) → OnOk result (ends left.bank)
    → new ≡ record old { shared_banks = slice_set old.shared_banks number left }
    → MatchResult result (λ count. RestsAt ends number count old new) (λ refusal. (refusal ≡ Memory) × IsCutShort number old new)
rests-at ends number old new shared_bank other left (Ok count) inside is took short ended made = record {
  at = takes-at number old new shared_bank other left took.0 inside is took.1 made;
  ended = ended;
  count_is = took.2;
}
rests-at ends number old new shared_bank other left (Err refusal) inside is took short ended made = (
  short.0,
  record { at = takes-at number old new shared_bank other left took.0 inside is took.1 made; room = short.1 },
)
