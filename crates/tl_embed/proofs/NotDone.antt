-- A store that is not done changes nothing.
use Rattle.std.proofs.Common.{◌≡◌, ◌≢◌, ◌⊎◌, inl, inr, ℕ, zero, suc, List, [], ◌∷◌, Option, Some, None, slice_get, slice_set, slice_index, refl, sym, ◌∙◌, ap}
use Rattle.std.proofs.lemmas.Option.{same_Some}
use Rattle.tl_bank_spec.specs.Refusal.{first_of}
use Rattle.tl_bank_spec.specs.Share.{ShareView}
use Rattle.tl_bank_spec.specs.View.{View}
use Rattle.tl_bank_spec.specs.declared.refusal.Refusal.{Refusal}
use Rattle.tl_script_words.specs.declared.step.Step.TheVariants as step
use Rattle.tl_text.specs.declared.answer.Answer.{Answer as Shown}
use Rattle.tl_trace.specs.Answers.{Answers}
use Rattle.tl_trace.specs.NetworkState.{NetworkState, SharedBankState, bank_asked, share_place}
use Rattle.tl_trace.specs.NetworkSteps.{IsNetworkStep}
use Rattle.tl_trace.specs.Steps.{Does, Scene, cases_of}
use Rattle.tl_embed.specs.Calls.{IsPlayed, IsStarved}
use Rattle.tl_embed.specs.Told.{step_told}
use Rattle.tl_embed.specs.declared.answer.Answer.{Answer}

-- what stands at a place is put there again
put-back : {X : Type 0} (xs : List X) (place : ℕ) (x : X) → slice_get xs place ≡ Some x → slice_set xs place x ≡ xs
put-back [] place x at = refl
put-back (y ∷ ys) zero x at = ap (λ z. z ∷ ys) (sym (same_Some _ _ at))
put-back (y ∷ ys) (suc place) x at = ap (λ zs. y ∷ zs) (put-back ys place x at)

-- likewise of numbers, of which there is none past the last
number-back : (xs : List ℕ) (place : ℕ) → slice_set xs place (slice_index xs place) ≡ xs
number-back [] place = refl
number-back (y ∷ ys) zero = refl
number-back (y ∷ ys) (suc place) = ap (λ zs. y ∷ zs) (number-back ys place)

-- a store that is told as other than done was refused
scene-stays : (first : Option Refusal) (index client address : ℕ) (bytes : List ℕ) (old new : Scene) (network : NetworkState) (shown : Shown)
    (told : Answer) → Answers first (new ≡ old) (Does index (step.Store client address bytes) old new shown) shown
    → told ≡ step_told network (step.Store client address bytes) shown → told.status ≢ 0 → new ≡ old
scene-stays (Some refusal) index client address bytes old new network shown told h tells other = h.0
scene-stays None index client address bytes old new network shown told h tells other =
    let done : told ≡ step_told network (step.Store client address bytes) shown = tells in
    absurd (other (ap (λ (a : Answer). a.status) (done ∙ ap (λ (x : Shown). step_told network (step.Store client address bytes) x) h.0.says)))

-- its bank and the shares are as they were
site-stays : (s left : SharedBankState) (share after : ShareView) (place : ℕ) → slice_get s.shares place ≡ Some share
    → left.shares ≡ slice_set s.shares place after → left.bank ≡ s.bank → after ≡ share → left ≡ s
site-stays s left share after place at shares bank same =
    let kept : left.shares ≡ s.shares = shares ∙ (ap (λ (x : ShareView). slice_set s.shares place x) same ∙ put-back s.shares place share at) in
    ap (λ (v : View). record { bank = v; shares = left.shares }) bank ∙ ap (λ (xs : List ShareView). record { bank = s.bank; shares = xs }) kept

-- all banks are
network-stays : (index client address : ℕ) (bytes : List ℕ) (old new : NetworkState) (shown : Shown) (told : Answer)
    → IsNetworkStep index (step.Store client address bytes) old new shown → told ≡ step_told new (step.Store client address bytes) shown
    → told.status ≢ 0 → new ≡ old
network-stays index client address bytes old new shown told h tells other =
    let before : Scene = record { bank = h.shared_bank.bank; share = h.acts.share; clock = slice_index old.clocks client } in
    let after : Scene = record { bank = h.left.bank; share = h.acts.left; clock = h.clock } in
    let scene : after ≡ before =
    scene-stays (first_of (cases_of before (step.Store client address bytes))) index client address bytes before after new shown told
    h.acts.acts tells other in
    let place : ℕ = bank_asked old.geometry (step.Store client address bytes) in
    let site : h.left ≡ h.shared_bank =
    site-stays h.shared_bank h.left h.acts.share h.acts.left (share_place h.shared_bank.shares client) h.acts.is_share h.acts.shares
    (ap (λ (s : Scene). s.bank) scene) (ap (λ (s : Scene). s.share) scene) in
    let banks : slice_set old.shared_banks place h.left ≡ old.shared_banks =
    ap (λ (s : SharedBankState). slice_set old.shared_banks place s) site ∙ put-back old.shared_banks place h.shared_bank h.is_site in
    let clocks : slice_set old.clocks client h.clock ≡ old.clocks =
    ap (λ (n : ℕ). slice_set old.clocks client n) (ap (λ (s : Scene). s.clock) scene) ∙ number-back old.clocks client in
    h.is
    ∙ (ap (λ (xs : List SharedBankState). record old { shared_banks = xs; clocks = slice_set old.clocks client h.clock }) banks
    ∙ ap (λ (ns : List ℕ). record old { clocks = ns }) clocks)

-- a store that was not done
pub not-done : (index client address : ℕ) (bytes : List ℕ) (old new : NetworkState) (told : Answer)
    → IsPlayed index (step.Store client address bytes) old new told ⊎ IsStarved (step.Store client address bytes) old new told
    → told.status ≢ 0 → new ≡ old
not-done index client address bytes old new told (inl h) other =
    network-stays index client address bytes old new h.shown told h.does h.tells other
not-done index client address bytes old new told (inr h) other = h.0.same
