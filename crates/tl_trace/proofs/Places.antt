-- A step changes one share, one bank and one clock.
use Rattle.std.proofs.Common.{◌≡◌, ℕ, ◌<◌, List, length, get_or, set, length-set, Some, slice_get, slice_index, slice_set, refl, sym, ◌∙◌, ap, subst, arith}
use Rattle.std.specs.List.{refill}
use Rattle.std.proofs.lemmas.Grind.{common_steps}
use Rattle.std.proofs.lemmas.List.{set-get_or}
use Rattle.std.proofs.lemmas.Option.{slice_get-get_or}
use Rattle.tl_script_words.specs.declared.step.Step.{Step}
use Rattle.tl_bank_spec.specs.Refusal.{first_of}
use Rattle.tl_bank_spec.specs.Share.{ShareView}
use Rattle.tl_bank_spec.specs.Steps.{Forgets}
use Rattle.tl_bank_spec.specs.View.{View}
use Rattle.tl_text.specs.declared.answer.Answer.{Answer}
use Rattle.tl_trace.specs.Answers.{IsStarved}
use Rattle.tl_trace.specs.Steps.{IsStep, cases_of}
use Rattle.tl_trace.specs.NetworkSteps.{IsStarvedAt, IsStarvedNetwork, IsStepAt, IsNetworkStep}
use Rattle.tl_trace.specs.NetworkState.{HasRoom, IsForgotten, IsReserved, IsShort, SharedBankState, NetworkState, bank_asked, client_named, share_place}
use Rattle.tl_trace.proofs.Starved.{step-room}

-- a list of the same length takes the other's place
pub refill-whole : {X : Type 0} (xs ws : List X) → length ws ≡ length xs → refill (length xs) xs ws ≡ ws
refill-whole xs ws same = grind (arith, common_steps)

-- a share that was handed to the bank, and written back
pub asked-at : (index : ℕ) (step : Step) (old new : SharedBankState) (before after place : ℕ) (shown : List ShareView) (other left : ShareView)
    (answer : Answer) → place ≡ share_place old.shares (client_named step) → place < length old.shares → shown ≡ old.shares
    → new.shares ≡ refill (length old.shares) old.shares (set shown place left)
    → IsStep index step (record { bank = old.bank; share = get_or shown place other; clock = before })
    (record { bank = new.bank; share = left; clock = after }) answer
    → IsStepAt index step old new before after answer
asked-at index step old new before after place shown other left answer at inside is shares acts =
    let written : refill (length old.shares) old.shares (set shown place left) ≡ set old.shares place left =
    ap (λ (xs : List ShareView). refill (length old.shares) old.shares (set xs place left)) is
    ∙ refill-whole old.shares (set old.shares place left) (length-set old.shares place left) in
    record {
      share = get_or shown place other;
      left = left;
      is_share =
          subst (λ (n : ℕ). slice_get old.shares n ≡ Some (get_or shown place other)) at
          (slice_get-get_or old.shares place other inside
          ∙ ap (λ (xs : List ShareView). Some (get_or xs place other)) (sym is));
      acts = acts;
      shares = shares ∙ (written ∙ ap (λ (n : ℕ). set old.shares n left) at);
    }

-- a bank that was asked, and a clock that was set
pub played : (index : ℕ) (step : Step) (old new : NetworkState) (place client clock : ℕ) (shared_bank other left : SharedBankState) (answer : Answer)
    → place ≡ bank_asked old.geometry step → client ≡ client_named step → place < length old.shared_banks
    → shared_bank ≡ get_or old.shared_banks place other
    → IsStepAt index step shared_bank left (slice_index old.clocks client) clock answer
    → new ≡ record old { shared_banks = slice_set old.shared_banks place left; clocks = slice_set old.clocks client clock }
    → IsNetworkStep index step old new answer
played index step old new place client clock shared_bank other left answer at of inside is acts after = record {
  shared_bank = shared_bank;
  left = left;
  clock = clock;
  is_site =
      subst (λ (n : ℕ). slice_get old.shared_banks n ≡ Some shared_bank) at
      (slice_get-get_or old.shared_banks place other inside ∙ ap (λ (s : SharedBankState). Some s) (sym is));
  acts = subst (λ (n : ℕ). IsStepAt index step shared_bank left (slice_index old.clocks n) clock answer) of acts;
  is =
      after
      ∙ (ap (λ (n : ℕ). record old { shared_banks = slice_set old.shared_banks n left; clocks = slice_set old.clocks client clock }) at
      ∙ ap (λ (n : ℕ). record old { shared_banks = slice_set old.shared_banks (bank_asked old.geometry step) left; clocks = slice_set old.clocks n clock }) of);
}

-- a share that was handed to a bank without memory, and written back
pub starved-at : (step : Step) (old new : SharedBankState) (before after place : ℕ) (shown : List ShareView) (other left : ShareView)
    → place < length old.shares → shown ≡ old.shares
    → new.shares ≡ refill (length old.shares) old.shares (set shown place left)
    → IsStarved (first_of (cases_of (record { bank = old.bank; share = get_or shown place other; clock = before }) step)) old.bank.room
    ((new.bank ≡ old.bank) × (left ≡ get_or shown place other) × (after ≡ before))
    → IsStarvedAt old new before after
starved-at step old new before after place shown other left inside is shares starved =
    let back : set shown place left ≡ shown = ap (λ (x : ShareView). set shown place x) starved.0.1 ∙ set-get_or shown place other in
    let same : new.shares ≡ old.shares =
    shares ∙ (ap (λ (xs : List ShareView). refill (length old.shares) old.shares xs) (back ∙ is) ∙ refill-whole old.shares old.shares refl) in
    record {
      same =
          ap (λ (b : View). record { bank = b; shares = new.shares }) starved.0.0
          ∙ ap (λ (xs : List ShareView). record { bank = old.bank; shares = xs }) same;
      clock = starved.0.2;
      room = step-room (record { bank = old.bank; share = get_or shown place other; clock = before }) step old.bank.room starved.1;
    }

-- a bank without memory, written back
pub starved-network : (step : Step) (old new : NetworkState) (place before after : ℕ) (shared_bank other left : SharedBankState)
    → place ≡ bank_asked old.geometry step → place < length old.shared_banks → shared_bank ≡ get_or old.shared_banks place other
    → IsStarvedAt shared_bank left before after
    → new ≡ record old { shared_banks = slice_set old.shared_banks place left } → IsStarvedNetwork step old new
starved-network step old new place before after shared_bank other left at inside is starved made = record {
  same =
      made
      ∙ ap (λ (xs : List SharedBankState). record old { shared_banks = xs })
      (ap (λ (s : SharedBankState). set old.shared_banks place s) (starved.same ∙ is) ∙ set-get_or old.shared_banks place other);
  shared_bank = shared_bank;
  is_site =
      subst (λ (n : ℕ). slice_get old.shared_banks n ≡ Some shared_bank) at
      (slice_get-get_or old.shared_banks place other inside ∙ ap (λ (s : SharedBankState). Some s) (sym is));
  room = starved.room;
}

-- a bank with room, written back
pub reserved-at : (number count : ℕ) (old new : NetworkState) (shared_bank other left : SharedBankState)
    → number < length old.shared_banks → shared_bank ≡ get_or old.shared_banks number other → HasRoom count shared_bank left
    → new ≡ record old { shared_banks = slice_set old.shared_banks number left } → IsReserved number count old new
reserved-at number count old new shared_bank other left inside is has made = record {
  shared_bank = shared_bank;
  left = left;
  is_site = slice_get-get_or old.shared_banks number other inside ∙ ap (λ (s : SharedBankState). Some s) (sym is);
  has_room = has;
  is = made;
}

-- a bank that forgot, written back
pub forgotten-at : (number : ℕ) (old new : NetworkState) (shared_bank other left : SharedBankState)
    → number < length old.shared_banks → shared_bank ≡ get_or old.shared_banks number other → Forgets shared_bank.bank left.bank
    → left.shares ≡ shared_bank.shares → new ≡ record old { shared_banks = slice_set old.shared_banks number left }
    → IsForgotten number old new
forgotten-at number old new shared_bank other left inside is forgets shares made = record {
  shared_bank = shared_bank;
  left = left;
  is_site = slice_get-get_or old.shared_banks number other inside ∙ ap (λ (s : SharedBankState). Some s) (sym is);
  forgets = forgets;
  shares = shares;
  is = made;
}

-- a bank that found no memory for room, written back
pub short-at : (number count : ℕ) (old new : NetworkState) (shared_bank other left : SharedBankState)
    → number < length old.shared_banks → shared_bank ≡ get_or old.shared_banks number other → left ≡ shared_bank
    → shared_bank.bank.room < count → new ≡ record old { shared_banks = slice_set old.shared_banks number left } → IsShort number count old new
short-at number count old new shared_bank other left inside is same less made = record {
  same =
      made
      ∙ ap (λ (xs : List SharedBankState). record old { shared_banks = xs })
      (ap (λ (s : SharedBankState). set old.shared_banks number s) (same ∙ is) ∙ set-get_or old.shared_banks number other);
  shared_bank = shared_bank;
  is_site = slice_get-get_or old.shared_banks number other inside ∙ ap (λ (s : SharedBankState). Some s) (sym is);
  less = less;
}
