-- An access leaves the shares as they are.
use Rattle.std.proofs.Common.{◌≡◌, ℕ, ◌<◌, List, [], ◌∷◌, length, get_or, set, Option, Some, None, Result, Ok, Err, IfErr, IfOk, OnErr, OnOk, slice_get, slice_index, slice_set, refl, sym, ◌∙◌, ap, subst, arith}
use Rattle.std.proofs.lemmas.List.{set-get_or}
use Rattle.std.proofs.lemmas.Option.{slice_get-get_or}
use Rattle.tl_script_words.specs.declared.step.Step.{Step}
use Rattle.tl_script_words.specs.declared.step.Step.TheVariants as step
use Rattle.tl_bank_spec.specs.Calls.{load_cases, store_cases}
use Rattle.tl_bank_spec.specs.Refusal.{IsRefused, first_of}
use Rattle.tl_bank_spec.specs.Share.{ShareView}
use Rattle.tl_bank_spec.specs.View.{View}
use Rattle.tl_bank_spec.specs.declared.refusal.Refusal.{Refusal}
use Rattle.tl_text.specs.declared.answer.Answer.{Answer}
use Rattle.tl_text.specs.declared.answer.Answer.TheVariants.{Done, Loaded, Refused}
use Rattle.tl_trace.specs.Answers.{Answers, IsStarved}
use Rattle.tl_trace.specs.Steps.{Does, IsStep, Loads, Scene, Stores, cases_of}
use Rattle.tl_trace.specs.NetworkSteps.{IsNetworkStep, IsRefusedAt, IsRefusedNetwork, IsStarvedAt, IsStarvedNetwork, IsStepAt}
use Rattle.tl_trace.specs.NetworkState.{NetworkState, SharedBankState, bank_asked, client_named, share_place}
use Rattle.tl_trace.proofs.Answered.{answers-refused}
use Rattle.tl_trace.proofs.Places.{played, starved-network}
use Rattle.tl_trace.proofs.Starved.{step-room}

-- a step that nothing stands against
step-does : (index : ℕ) (asked : Step) (old new : Scene) (answer : Answer) → first_of (cases_of old asked) ≡ None
    → Does index asked old new answer → IsStep index asked old new answer
step-does index asked old new answer none does =
    subst (λ (first : Option Refusal). Answers first (new ≡ old) (Does index asked old new answer) answer) (sym none) does

-- a load that was done is a step
load-does : (index client address len : ℕ) (old new : View) (share : ShareView) (before after : ℕ) (bytes : List ℕ)
    → first_of (load_cases old client address len before) ≡ None → Loads index old new before after client address len (Loaded bytes)
    → IsStep index (step.Load client address len) (record { bank = old; share = share; clock = before })
    (record { bank = new; share = share; clock = after }) (Loaded bytes)
load-does index client address len old new share before after bytes none does =
    step-does index (step.Load client address len) (record { bank = old; share = share; clock = before })
    (record { bank = new; share = share; clock = after }) (Loaded bytes) none (does, refl)

-- a store that was done is a step
store-does : (index client address : ℕ) (bytes : List ℕ) (old new : View) (share : ShareView) (before after : ℕ)
    → first_of (store_cases old client address (length bytes) before) ≡ None
    → Stores index old new before after client address bytes Done
    → IsStep index (step.Store client address bytes) (record { bank = old; share = share; clock = before })
    (record { bank = new; share = share; clock = after }) Done
store-does index client address bytes old new share before after none does =
    step-does index (step.Store client address bytes) (record { bank = old; share = share; clock = before })
    (record { bank = new; share = share; clock = after }) Done none (does, refl)

-- a step that left the share as it was, and no share was written
kept-at : (index : ℕ) (step : Step) (old new : SharedBankState) (before after place : ℕ) (shown : List ShareView) (share other : ShareView)
    (answer : Answer) → place ≡ share_place old.shares (client_named step) → place < length old.shares → shown ≡ old.shares
    → share ≡ get_or shown place other → new.shares ≡ old.shares
    → IsStep index step (record { bank = old.bank; share = share; clock = before })
    (record { bank = new.bank; share = share; clock = after }) answer
    → IsStepAt index step old new before after answer
kept-at index step old new before after place shown share other answer at inside is of same acts =
    let held : share ≡ get_or old.shares place other = of ∙ ap (λ (xs : List ShareView). get_or xs place other) is in
    record {
      share = share;
      left = share;
      is_share =
          subst (λ (n : ℕ). slice_get old.shares n ≡ Some share) at
          (slice_get-get_or old.shares place other inside ∙ ap (λ (x : ShareView). Some x) (sym held));
      acts = acts;
      shares =
          same
          ∙ sym (ap (λ (n : ℕ). set old.shares n share) (sym at)
          ∙ (ap (λ (x : ShareView). set old.shares place x) held ∙ set-get_or old.shares place other));
    }

-- a step that found no memory, and no share was written
kept-starved : (step : Step) (old new : SharedBankState) (before after : ℕ) (share : ShareView) → new.shares ≡ old.shares
    → IsStarved (first_of (cases_of (record { bank = old.bank; share = share; clock = before }) step)) old.bank.room
    ((new.bank ≡ old.bank) × (after ≡ before))
    → IsStarvedAt old new before after
kept-starved step old new before after share same starved = record {
  same =
      ap (λ (b : View). record { bank = b; shares = new.shares }) starved.0.0
      ∙ ap (λ (xs : List ShareView). record { bank = old.bank; shares = xs }) same;
  clock = starved.0.1;
  room = step-room (record { bank = old.bank; share = share; clock = before }) step old.bank.room starved.1;
}

-- a scene
abbrev scene : View → ShareView → ℕ → Scene
scene bank share clock = record { bank = bank; share = share; clock = clock }

-- a scene whose bank and clock are as they were
scene-same : (old new : View) (share : ShareView) (before after : ℕ) → (new ≡ old) × (after ≡ before)
    → scene new share after ≡ scene old share before
scene-same old new share before after h =
    ap (λ (v : View). scene v share after) h.0 ∙ ap (λ (n : ℕ). scene old share n) h.1

-- an access that was refused
kept-refused : (index : ℕ) (step : Step) (old : SharedBankState) (new : View) (before after place : ℕ) (shown : List ShareView)
    (share other : ShareView) (refusal : Refusal) → place ≡ share_place old.shares (client_named step) → place < length old.shares
    → shown ≡ old.shares → share ≡ get_or shown place other → (new ≡ old.bank) × (after ≡ before)
    → IsRefused (first_of (cases_of (record { bank = old.bank; share = share; clock = before }) step)) old.bank.room refusal
    → IsRefusedAt index step old (record { bank = new; shares = old.shares }) before after refusal
kept-refused index step old new before after place shown share other refusal at inside is of same refused =
    let first : Option Refusal = first_of (cases_of (record { bank = old.bank; share = share; clock = before }) step) in
    record {
      starved = λ memory.
          kept-starved step old (record { bank = new; shares = old.shares }) before after share refl
          (same, subst (IsRefused first old.bank.room) memory refused);
      refused = λ another.
          kept-at index step old (record { bank = new; shares = old.shares }) before after place shown share other (Refused refusal) at inside
          is of refl
          (answers-refused first old.bank.room refusal _ _ (Refused refusal) refused another (scene-same old.bank new share before after same) refl);
    }

-- a share where there is one
some-share : (shares : List ShareView) (place : ℕ) → place < length shares → ShareView
some-share [] place inside = absurd (omega (arith, inside))
some-share (share ∷ shares) place inside = share

-- a load, refused or done
pub load-kept : (result : Result (List ℕ) Refusal) (index client address len : ℕ) (old : SharedBankState) (new : View) (before after place : ℕ)
    → place ≡ share_place old.shares client → place < length old.shares
    → IfErr result (IsRefused (first_of (load_cases old.bank client address len before)) old.bank.room)
    → OnErr result ((new ≡ old.bank) × (after ≡ before))
    → OnOk result (first_of (load_cases old.bank client address len before) ≡ None)
    → IfOk result (λ bytes. Loads index old.bank new before after client address len (Loaded bytes))
    → IfErr result (IsRefusedAt index (step.Load client address len) old (record { bank = new; shares = old.shares }) before after)
    × IfOk result
    (λ bytes. IsStepAt index (step.Load client address len) old (record { bank = new; shares = old.shares }) before after (Loaded bytes))
load-kept (Ok bytes) index client address len old new before after place at inside refused same none does =
    let other : ShareView = some-share old.shares place inside in
    let share : ShareView = get_or old.shares place other in (
      tt,
      kept-at index (step.Load client address len) old (record { bank = new; shares = old.shares }) before after place old.shares share other
          (Loaded bytes) at inside refl refl refl (load-does index client address len old.bank new share before after bytes none does),
    )
load-kept (Err refusal) index client address len old new before after place at inside refused same none does =
    let other : ShareView = some-share old.shares place inside in (
      kept-refused index (step.Load client address len) old new before after place old.shares (get_or old.shares place other) other refusal at
          inside refl refl same refused,
      tt,
    )

-- a store, refused or done
pub store-kept : (result : Result (Unit {0}) Refusal) (index client address : ℕ) (bytes : List ℕ) (old : SharedBankState) (new : View)
    (before after place : ℕ) → place ≡ share_place old.shares client → place < length old.shares
    → IfErr result (IsRefused (first_of (store_cases old.bank client address (length bytes) before)) old.bank.room)
    → OnErr result ((new ≡ old.bank) × (after ≡ before))
    → OnOk result (first_of (store_cases old.bank client address (length bytes) before) ≡ None)
    → IfOk result (λ _. Stores index old.bank new before after client address bytes Done)
    → IfErr result (IsRefusedAt index (step.Store client address bytes) old (record { bank = new; shares = old.shares }) before after)
    × IfOk result
    (λ _. IsStepAt index (step.Store client address bytes) old (record { bank = new; shares = old.shares }) before after Done)
store-kept (Ok done) index client address bytes old new before after place at inside refused same none does =
    let other : ShareView = some-share old.shares place inside in
    let share : ShareView = get_or old.shares place other in (
      tt,
      kept-at index (step.Store client address bytes) old (record { bank = new; shares = old.shares }) before after place old.shares share other
          Done at inside refl refl refl (store-does index client address bytes old.bank new share before after none does),
    )
store-kept (Err refusal) index client address bytes old new before after place at inside refused same none does =
    let other : ShareView = some-share old.shares place inside in (
      kept-refused index (step.Store client address bytes) old new before after place old.shares (get_or old.shares place other) other refusal at
          inside refl refl same refused,
      tt,
    )

-- a bank and a clock that were asked, where there was no memory
starved-step : (index : ℕ) (step : Step) (old new : NetworkState) (place client before clock : ℕ)
    (shared_bank other left : SharedBankState) → place ≡ bank_asked old.geometry step → place < length old.shared_banks
    → before ≡ slice_index old.clocks client → shared_bank ≡ get_or old.shared_banks place other
    → IsStarvedAt shared_bank left before clock
    → new ≡ record old { shared_banks = slice_set old.shared_banks place left; clocks = slice_set old.clocks client clock }
    → IsStarvedNetwork step old new
starved-step index step old new place client before clock shared_bank other left at inside clocked is starved made =
    let clocks : slice_set old.clocks client clock ≡ old.clocks =
    ap (λ (n : ℕ). slice_set old.clocks client n) (starved.clock ∙ clocked) ∙ set-get_or old.clocks client 0 in
    starved-network step old new place before clock shared_bank other left at inside is starved
    (made ∙ ap (λ (xs : List ℕ). record old { shared_banks = slice_set old.shared_banks place left; clocks = xs }) clocks)

-- the same, and an answer
done-step : (index : ℕ) (step : Step) (old new : NetworkState) (place client before clock : ℕ) (shared_bank other left : SharedBankState)
    (answer : Answer) → place ≡ bank_asked old.geometry step → client ≡ client_named step → place < length old.shared_banks
    → before ≡ slice_index old.clocks client → shared_bank ≡ get_or old.shared_banks place other
    → IsStepAt index step shared_bank left before clock answer
    → new ≡ record old { shared_banks = slice_set old.shared_banks place left; clocks = slice_set old.clocks client clock }
    → IsNetworkStep index step old new answer
done-step index step old new place client before clock shared_bank other left answer at of inside clocked is acts made =
    played index step old new place client clock shared_bank other left answer at of inside is
    (subst (λ (n : ℕ). IsStepAt index step shared_bank left n clock answer) clocked acts) made

-- the bank that was asked and the clock that was set are back in their places
pub step-network : {T E : Type 0} (result : Result T E) (index : ℕ) (step : Step) (old new : NetworkState) (place client before clock : ℕ)
    (shared_bank other left : SharedBankState) (answer : Answer) → place ≡ bank_asked old.geometry step → client ≡ client_named step
    → place < length old.shared_banks → before ≡ slice_index old.clocks client → shared_bank ≡ get_or old.shared_banks place other
    → OnErr result (IsStarvedAt shared_bank left before clock) → OnOk result (IsStepAt index step shared_bank left before clock answer)
    → new ≡ record old { shared_banks = slice_set old.shared_banks place left; clocks = slice_set old.clocks client clock }
    → OnErr result (IsStarvedNetwork step old new) × OnOk result (IsNetworkStep index step old new answer)
step-network (Ok v) index step old new place client before clock shared_bank other left answer at of inside clocked is starved acts made =
    (tt, done-step index step old new place client before clock shared_bank other left answer at of inside clocked is acts made)
step-network (Err e) index step old new place client before clock shared_bank other left answer at of inside clocked is starved acts made =
    (starved-step index step old new place client before clock shared_bank other left at inside clocked is starved made, tt)

-- the bank that was asked and the clock that was set are back in their places, whatever was answered
pub access-network : {T : Type 0} (result : Result T Refusal) (answer : T → Answer) (index : ℕ) (step : Step) (old new : NetworkState)
    (place client before clock : ℕ) (shared_bank other left : SharedBankState) → place ≡ bank_asked old.geometry step
    → client ≡ client_named step → place < length old.shared_banks → before ≡ slice_index old.clocks client
    → shared_bank ≡ get_or old.shared_banks place other → IfErr result (IsRefusedAt index step shared_bank left before clock)
    → IfOk result (λ t. IsStepAt index step shared_bank left before clock (answer t))
    → new ≡ record old { shared_banks = slice_set old.shared_banks place left; clocks = slice_set old.clocks client clock }
    → IfErr result (IsRefusedNetwork index step old new) × IfOk result (λ t. IsNetworkStep index step old new (answer t))
access-network (Ok t) answer index step old new place client before clock shared_bank other left at of inside clocked is refused done made =
    (tt, done-step index step old new place client before clock shared_bank other left (answer t) at of inside clocked is done made)
access-network (Err refusal) answer index step old new place client before clock shared_bank other left at of inside clocked is refused done made = (
  record {
    starved = λ memory.
        starved-step index step old new place client before clock shared_bank other left at inside clocked is (refused.starved memory) made;
    refused = λ another.
        done-step index step old new place client before clock shared_bank other left (Refused refusal) at of inside clocked is
        (refused.refused another) made;
  },
  tt,
)
