-- The steps of a script, one after another, over all banks (this project's own).
use Rattle.std.specs.Prelude.{◌≡◌, ◌≢◌, ℕ, suc, List, [], ◌∷◌, slice_get, slice_index, slice_set, Some}
use Rattle.tl_map.specs.Numbers.{Numbers}
use Rattle.tl_script_words.specs.declared.step.Step.{Step}
use Rattle.tl_bank_spec.specs.Share.{ShareView}
use Rattle.tl_bank_spec.specs.declared.refusal.Refusal.{Refusal}
use Rattle.tl_bank_spec.specs.declared.refusal.Refusal.TheVariants.{Memory}
use Rattle.tl_text.specs.declared.answer.Answer.{Answer}
use Rattle.tl_text.specs.declared.answer.Answer.TheVariants.{Refused}
use Rattle.tl_text.specs.declared.trace.Trace.{Trace}
use Rattle.tl_trace.specs.Steps.{IsStep}
use Rattle.tl_trace.specs.Closing.{Close}
use Rattle.tl_trace.specs.NetworkState.{SharedBankState, NetworkState, AreCoherent, IsReset, bank_asked, client_named, share_place}

-- ## One step

-- A step is asked of one bank, with the share of the client that it names.
pub record IsStepAt (index : ℕ) (step : Step) (old new : SharedBankState) (before after : ℕ) (answer : Answer) : Type 0 where
  pub share : ShareView
  pub left : ShareView
  pub is_share : slice_get old.shares (share_place old.shares (client_named step)) ≡ Some share
  pub acts :
      IsStep index step (record { bank = old.bank; share = share; clock = before })
      (record { bank = new.bank; share = left; clock = after }) answer
  pub shares : new.shares ≡ slice_set old.shares (share_place old.shares (client_named step)) left

-- A step is asked of the bank that it names, with the clock of the client that it names, 0 for a client that is not there. The
-- other banks and clocks stay.
pub record IsNetworkStep (index : ℕ) (step : Step) (old new : NetworkState) (answer : Answer) : Type 0 where
  pub shared_bank : SharedBankState
  pub left : SharedBankState
  pub clock : ℕ
  pub is_site : slice_get old.shared_banks (bank_asked old.geometry step) ≡ Some shared_bank
  pub acts : IsStepAt index step shared_bank left (slice_index old.clocks (client_named step)) clock answer
  pub is :
      new
      ≡ record old {
        shared_banks = slice_set old.shared_banks (bank_asked old.geometry step) left;
        clocks = slice_set old.clocks (client_named step) clock;
      }

-- There was no memory for a step: all is as it was, and the bank's log had no room.
pub record IsStarvedAt (old new : SharedBankState) (before after : ℕ) : Type 0 where
  pub same : new ≡ old
  pub clock : after ≡ before
  pub room : old.bank.room ≡ 0

-- There was no memory for a step: all is as it was, and the log of the bank that it names had no room.
pub record IsStarvedNetwork (step : Step) (old new : NetworkState) : Type 0 where
  pub same : new ≡ old
  pub shared_bank : SharedBankState
  pub is_site : slice_get old.shared_banks (bank_asked old.geometry step) ≡ Some shared_bank
  pub room : shared_bank.bank.room ≡ 0

-- ## One step whose refusals are errors

-- A step was refused: it found no memory, or it is a step that answers the refusal.
pub record IsRefusedAt (index : ℕ) (step : Step) (old new : SharedBankState) (before after : ℕ) (refusal : Refusal) : Type 0 where
  pub starved : refusal ≡ Memory → IsStarvedAt old new before after
  pub refused : refusal ≢ Memory → IsStepAt index step old new before after (Refused refusal)

-- The same, of all banks.
pub record IsRefusedNetwork (index : ℕ) (step : Step) (old new : NetworkState) (refusal : Refusal) : Type 0 where
  pub starved : refusal ≡ Memory → IsStarvedNetwork step old new
  pub refused : refusal ≢ Memory → IsNetworkStep index step old new (Refused refusal)

-- ## All steps

-- these steps give these answers, one each, from an index and a state of the network on; a refused step ends nothing
abbrev pub AreNetworkSteps : ℕ → List Step → NetworkState → List Answer → NetworkState → Type 0
AreNetworkSteps index [] old [] new = new ≡ old
AreNetworkSteps index [] old (answer ∷ answers) new = ⊥
AreNetworkSteps index (step ∷ steps) old [] new = ⊥
AreNetworkSteps index (step ∷ steps) old (answer ∷ answers) new =
    (next : NetworkState) × IsNetworkStep index step old next answer × AreNetworkSteps (suc index) steps next answers new

-- A trace of these steps over banks of a geometry and an image: from reset each step gives an answer that its bank's call may give,
-- and at the end each bank shows what it then holds.
pub record IsTrace (g : Numbers) (image : List ℕ) (steps : List Step) (trace : Trace) : Type 0 where
  pub start : NetworkState
  pub end : NetworkState
  pub reset : IsReset g image start
  pub performs : AreNetworkSteps 0 steps start trace.answers.items end
  pub closes : Close end.shared_banks trace.banks.items
  -- each bank is coherent: its log is a run, and every load in it got the bytes last stored
  pub coherent : AreCoherent end.shared_banks
