-- One bank more that rests.
use Rattle.std.proofs.Common.{◌≡◌, ◌≢◌, ℕ, zero, suc, ◌+◌, ◌-◌, ◌^◌, ◌<◌, ◌≤◌, List, [], ◌∷◌, ◌++◌, length, min, Some, slice_get, slice_set, refl, sym, ◌∙◌, ap, subst, arith, inl, inr, add-one, length-append}
use Rattle.std.specs.Option.{option_map}
use Rattle.std.proofs.lemmas.Bool.{cases_eq}
use Rattle.std.proofs.lemmas.Option.{same_Some}
use Rattle.tl_protocol.specs.declared.event.Event.{Event}
use Rattle.tl_bank_spec.specs.View.{View}
use Rattle.tl_trace.specs.NetworkState.{NetworkState, SharedBankState, bank_at}
use Rattle.tl_trace.specs.Rests.{IsCutShort, RestsAt, Takes, TakesAt}
use Rattle.tl_embed.specs.Rests.{AllRest, AreCutShort, HasRested, RestBelow, logged_below, logged_in}

-- ## Lists

-- what was written is there
get-written : {X : Type 0} (xs : List X) (place : ℕ) (x y : X) → slice_get xs place ≡ Some y
    → slice_get (slice_set xs place x) place ≡ Some x
get-written [] place x y h = cc
get-written (z ∷ xs) zero x y h = refl
get-written (z ∷ xs) (suc place) x y h = get-written xs place x y h

-- and nowhere else
get-beside : {X : Type 0} (xs : List X) (place k : ℕ) (x : X) → k ≢ place → slice_get (slice_set xs place x) k ≡ slice_get xs k
get-beside [] place k x apart = refl
get-beside (z ∷ xs) zero zero x apart = absurd (apart refl)
get-beside (z ∷ xs) zero (suc k) x apart = refl
get-beside (z ∷ xs) (suc place) zero x apart = refl
get-beside (z ∷ xs) (suc place) (suc k) x apart = get-beside xs place k x (λ e. apart (ap suc e))

-- ## Events

-- banks that are as they were have as many events
logged-same : (old new : NetworkState) (n : ℕ)
    → ((k : ℕ) → k < n → slice_get new.shared_banks k ≡ slice_get old.shared_banks k) → logged_below new n ≡ logged_below old n
logged-same old new zero same = refl
logged-same old new (suc n) same =
    let rest : logged_below new n ≡ logged_below old n = logged-same old new n (λ k l. same k (omega arith)) in
    let here : logged_in (bank_at new n) ≡ logged_in (bank_at old n) =
    ap (λ o. logged_in (option_map (λ (s : SharedBankState). s.bank) o)) (same n (omega arith)) in
    omega arith

-- the events of a bank that is there
logged-here : (network : NetworkState) (n : ℕ) (s : SharedBankState) → slice_get network.shared_banks n ≡ Some s
    → logged_in (bank_at network n) ≡ length s.bank.log
logged-here network n s at = ap (λ o. logged_in (option_map (λ (x : SharedBankState). x.bank) o)) at

-- a bank that took some has so many more
grown : (before after : SharedBankState) (events : List Event) → Takes before after events
    → length after.bank.log ≡ length before.bank.log + length events
grown before after events h = ap (λ (v : View). length v.log) h.receives.is ∙ length-append before.bank.log events

-- ## One bank more

-- none yet
pub none-rested : (ends : View → Type 0) (v : NetworkState) → RestBelow ends 0 0 v v
none-rested ends v = record {
  is = refl;
  rested = λ number before l at. absurd (omega arith);
  behind = λ number l. refl;
  came = refl;
}

-- only the banks are others
banks-only : (old mid new : NetworkState) (place : ℕ) (left : SharedBankState) → mid ≡ record old { shared_banks = mid.shared_banks }
    → new ≡ record mid { shared_banks = slice_set mid.shared_banks place left }
    → new ≡ record old { shared_banks = new.shared_banks }
banks-only old mid new place left before after =
    let xs : List SharedBankState = slice_set mid.shared_banks place left in
    after
    ∙ (ap (λ (n : NetworkState). record n { shared_banks = xs }) before
    ∙ ap (λ (ys : List SharedBankState). record old { shared_banks = ys }) (sym (ap (λ (n : NetworkState). n.shared_banks) after)))

-- the banks beside the one that took something
beside : (place : ℕ) (mid new : NetworkState) (h : TakesAt place mid new) (k : ℕ) → k ≢ place
    → slice_get new.shared_banks k ≡ slice_get mid.shared_banks k
beside place mid new h k apart =
    ap (λ (n : NetworkState). slice_get n.shared_banks k) h.is ∙ get-beside mid.shared_banks place k h.left apart

-- and that one
there : (place : ℕ) (mid new : NetworkState) (h : TakesAt place mid new) → slice_get new.shared_banks place ≡ Some h.left
there place mid new h =
    ap (λ (n : NetworkState). slice_get n.shared_banks place) h.is
    ∙ get-written mid.shared_banks place h.left h.shared_bank h.is_site

-- the bank that is next, rested
next-rested : (ends : View → Type 0) (place n : ℕ) (old mid new : NetworkState) (before : SharedBankState)
    → slice_get mid.shared_banks place ≡ slice_get old.shared_banks place → RestsAt ends place n mid new
    → slice_get old.shared_banks place ≡ Some before → HasRested ends new place before
next-rested ends place n old mid new before same h at =
    let is : h.at.shared_bank ≡ before = same_Some _ _ (sym h.at.is_site ∙ (same ∙ at)) in
    record {
      after = h.at.left;
      events = h.at.events;
      is = there place mid new h.at;
      takes = subst (λ (s : SharedBankState). Takes s h.at.left h.at.events) is h.at.takes;
      ended = h.ended;
    }

-- a bank before it
still-rested : (ends : View → Type 0) (place number : ℕ) (mid new : NetworkState) (before : SharedBankState) → TakesAt place mid new
    → number ≢ place → HasRested ends mid number before → HasRested ends new number before
still-rested ends place number mid new before h apart r =
    record { after = r.after; events = r.events; is = beside place mid new h number apart ∙ r.is; takes = r.takes; ended = r.ended }

-- how many events all have then
came-next : (place count n : ℕ) (old mid new : NetworkState)
    → slice_get mid.shared_banks place ≡ slice_get old.shared_banks place
    → (h : TakesAt place mid new) → length h.events ≡ n → logged_below mid place ≡ logged_below old place + count
    → logged_below new (suc place) ≡ logged_below old (suc place) + (count + n)
came-next place count n old mid new same h many came =
    let first : logged_below new place ≡ logged_below mid place =
    logged-same mid new place (λ k l. beside place mid new h k (λ e. absurd (omega arith))) in
    let here : logged_in (bank_at new place) ≡ length h.left.bank.log = logged-here new place h.left (there place mid new h) in
    let was : logged_in (bank_at old place) ≡ length h.shared_bank.bank.log =
    logged-here old place h.shared_bank (sym same ∙ h.is_site) in
    let more : length h.left.bank.log ≡ length h.shared_bank.bank.log + length h.events =
    grown h.shared_bank h.left h.events h.takes in
    omega arith

-- the bank at a place too
pub rest-next : (ends : View → Type 0) (place count n : ℕ) (old mid new : NetworkState) → RestBelow ends place count old mid
    → RestsAt ends place n mid new → RestBelow ends (place + 1) (count + n) old new
rest-next ends place count n old mid new r h =
    let at : suc place ≡ place + 1 = omega arith in
    let same : slice_get mid.shared_banks place ≡ slice_get old.shared_banks place = r.behind place (omega arith) in
    subst (λ (k : ℕ). RestBelow ends k (count + n) old new) at (record {
      is = banks-only old mid new place h.at.left r.is h.at.is;
      rested = λ number before l is. elim (cases_eq number place) [
        | inl e ↦
            subst (λ (k : ℕ). HasRested ends new k before) (sym e)
            (next-rested ends place n old mid new before same h
            (subst (λ (k : ℕ). slice_get old.shared_banks k ≡ Some before) e is))
        | inr apart ↦
            still-rested ends place number mid new before h.at apart (r.rested number before (omega arith) is)
      ];
      behind = λ number l.
          beside place mid new h.at number (λ e. absurd (omega arith)) ∙ r.behind number (omega arith);
      came = came-next place count n old mid new same h.at h.count_is r.came;
    })

-- ## The loop

-- the first banks, with how many events are told
pub record SoFar (ends : View → Type 0) (place told : ℕ) (old new : NetworkState) : Type 0 where
  pub count : ℕ
  pub below : RestBelow ends place count old new
  pub told_is : told ≡ min count (2 ^ 64 - 1)

-- one more
pub so-far-next : (ends : View → Type 0) (place told n next : ℕ) (old mid new : NetworkState) → SoFar ends place told old mid
    → RestsAt ends place n mid new → next ≡ min (told + n) (2 ^ 64 - 1) → SoFar ends (place + 1) next old new
so-far-next ends place told n next old mid new r h is =
    let was = r.told_is in
    record {
      count = r.count + n;
      below = rest-next ends place r.count n old mid new r.below h;
      told_is = omega arith;
    }

-- all of them
pub all-rest : (ends : View → Type 0) (place told : ℕ) (old new : NetworkState) → SoFar ends place told old new
    → place ≡ old.geometry.banks → AllRest ends told old new
all-rest ends place told old new r at = record {
  count = r.count;
  all = subst (λ (k : ℕ). RestBelow ends k r.count old new) at r.below;
  told_is = r.told_is;
}

-- or one found no memory
pub cut-short : (ends : View → Type 0) (place told : ℕ) (old mid new : NetworkState) → SoFar ends place told old mid
    → place < old.geometry.banks → IsCutShort place mid new → AreCutShort ends old new
cut-short ends place told old mid new r inside h =
    record { place = place; inside = inside; count = r.count; mid = mid; first = r.below; cut = h }

-- a bank that is there at first is there later
pub below-all : (ends : View → Type 0) (place told number : ℕ) (old mid : NetworkState) → SoFar ends place told old mid
    → number < old.geometry.banks → number < mid.geometry.banks
below-all ends place told number old mid r l =
    subst (λ (k : ℕ). number < k) (sym (ap (λ (n : NetworkState). n.geometry.banks) r.below.is)) l
