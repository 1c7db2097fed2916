-- What a step does not reach shows what it showed.
use Rattle.std.proofs.Common.{◌≡◌, ◌≢◌, ℕ, zero, suc, ◌-◌, ◌==◌, ◌&&◌, Bool, true, false, List, [], ◌∷◌, drop, length, set, slice_get, slice_index, slice_set, Option, Some, None, refl, sym, ap, ◌∙◌, subst, inl, inr, eq-eqb}
use Rattle.std.specs.Option.{option_map}
use Rattle.std.specs.Prelude.{IfSome}
use Rattle.std.proofs.lemmas.Bool.{cases_eq}
use Rattle.std.proofs.lemmas.List.{length-map}
use Rattle.std.proofs.lemmas.Option.{slice_get-map}
use Rattle.tl_map.specs.Numbers.{Numbers}
use Rattle.tl_map.specs.Places.{set_of}
use Rattle.tl_protocol.specs.declared.event.Event.{Event}
use Rattle.tl_script_words.specs.declared.step.Step.{Step}
use Rattle.tl_bank_spec.specs.View.{View}
use Rattle.tl_text.specs.declared.answer.Answer.{Answer}
use Rattle.tl_trace.specs.NetworkState.{NetworkState, SharedBankState, bank_asked, bank_at, client_named}
use Rattle.tl_trace.specs.NetworkSteps.{IsNetworkStep}
use Rattle.tl_trace.specs.Steps.{Scene}
use Rattle.tlchart_page.specs.Parts.{cell_text, part_of, part_text, state_shown}
use Rattle.tlchart_page.specs.Reach.{IsKnownSpot, IsLastSpot, IsShownBut, IsSpotOf, may_change, touches_if}
use Rattle.tlchart_page.specs.declared.parts.Cell.{Cell}
use Rattle.tlchart_page.specs.declared.parts.Part.{Part}
use Rattle.tlchart_page.specs.declared.reach.Reach.{Reach}
use Rattle.tlchart_page.specs.declared.reach.Spot.{Spot}
use Rattle.tlchart_page.proofs.Lasts.{ends-behind}
use Rattle.tlchart_page.proofs.Moves.{Moves, step-moves}
use Rattle.tlchart_page.proofs.Untouched.{Untouched, moves-untouched, part-same}

-- ## A place of a list that is set

-- another place
slice_get-set_other : {X : Type 0} (xs : List X) (i j : ℕ) (y : X) → j ≢ i → slice_get (set xs i y) j ≡ slice_get xs j
slice_get-set_other [] i j y ne = refl
slice_get-set_other (x ∷ xs) zero zero y ne = absurd (ne refl)
slice_get-set_other (x ∷ xs) zero (suc j) y ne = refl
slice_get-set_other (x ∷ xs) (suc i) zero y ne = refl
slice_get-set_other (x ∷ xs) (suc i) (suc j) y ne = slice_get-set_other xs i j y (λ e. ne (ap suc e))

-- the place itself, where it is there
slice_get-set_same : {X : Type 0} (xs : List X) (i : ℕ) (x y : X) → slice_get xs i ≡ Some x → slice_get (set xs i y) i ≡ Some y
slice_get-set_same [] i x y h = cc
slice_get-set_same (z ∷ xs) zero x y h = refl
slice_get-set_same (z ∷ xs) (suc i) x y h = slice_get-set_same xs i x y h

-- ## The spot of a step

-- what is known of the last event of a log that code can read
pub spot-last : (v : View) (g : Numbers) (events : List Event) (event : Event) (found : Option Spot) → g ≡ v.geometry
    → events ≡ drop v.forgotten v.log → Some event ≡ slice_get events (length events - 1) → IfSome found (IsSpotOf g event)
    → IfSome found (IsLastSpot v)
spot-last v g events event None same is last h = tt
spot-last v g events event (Some spot) same is last h =
    let found : slice_get (drop v.forgotten v.log) (length (drop v.forgotten v.log) - 1) ≡ Some event =
    ap (λ (es : List Event). slice_get es (length es - 1)) (sym is) ∙ sym last in
    let ends = ends-behind v.log v.forgotten event found in
    record {
      before = ends.0;
      event = event;
      log = ends.1;
      of = subst (λ (numbers : Numbers). IsSpotOf numbers event spot) same h;
    }

-- where the bank is there
pub spot-known : (v : View) (bank : Option View) (found : Option Spot) → Some v ≡ bank → IfSome found (IsLastSpot v) → IsKnownSpot bank found
spot-known v bank None is h = tt
spot-known v bank (Some spot) is h = subst (λ (o : Option View). IsKnownSpot o (Some spot)) is h

-- ## A cell

-- a part of the bank that the step was asked of
part-left : (old new : View) (spot : Option Spot) (p : Part) → Moves old new → IsKnownSpot (Some new) spot → touches_if spot p ≡ false
    → part_text new p ≡ part_text old p
part-left old new None p moves known h = cc
part-left old new (Some spot) p moves known h =
    let u : Untouched old new spot.block = moves-untouched old new spot moves known in
    part-same old new spot u (known.of.set ∙ ap (λ (g : Numbers). set_of g spot.block) u.geometry) p h

module _ (index : ℕ) (step : Step) (old new : NetworkState) (answer : Answer) (n : IsNetworkStep index step old new answer)
    (reach : Reach) (bank : reach.bank ≡ bank_asked new.geometry step) (known : IsKnownSpot (bank_at new reach.bank) reach.spot) where
  -- the bank that was asked
  asked : reach.bank ≡ bank_asked old.geometry step
  asked = bank ∙ ap (λ (s : NetworkState). bank_asked s.geometry step) n.is

  -- it was there
  bank-before : bank_at old reach.bank ≡ Some n.shared_bank.bank
  bank-before =
      ap (bank_at old) asked ∙ ap (λ (o : Option SharedBankState). option_map (λ (s : SharedBankState). s.bank) o) n.is_site

  -- it is there
  bank-after : bank_at new reach.bank ≡ Some n.left.bank
  bank-after =
      ap (bank_at new) asked
      ∙ ap (λ (s : NetworkState). bank_at s (bank_asked old.geometry step)) n.is
      ∙ ap (λ (o : Option SharedBankState). option_map (λ (s : SharedBankState). s.bank) o)
      (slice_get-set_same old.shared_banks (bank_asked old.geometry step) n.shared_bank n.left n.is_site)

  -- another bank is as it was
  bank-other : (number : ℕ) → number ≢ reach.bank → bank_at new number ≡ bank_at old number
  bank-other number ne =
      ap (λ (s : NetworkState). bank_at s number) n.is
      ∙ ap (λ (o : Option SharedBankState). option_map (λ (s : SharedBankState). s.bank) o)
      (slice_get-set_other old.shared_banks (bank_asked old.geometry step) number n.left (λ e. ne (e ∙ sym asked)))

  -- a part of that bank
  here-same : (p : Part) → touches_if reach.spot p ≡ false → part_of (bank_at new reach.bank) p ≡ part_of (bank_at old reach.bank) p
  here-same p h =
      let before : Scene =
      record { bank = n.shared_bank.bank; share = n.acts.share; clock = slice_index old.clocks (client_named step) } in
      let after : Scene = record { bank = n.left.bank; share = n.acts.left; clock = n.clock } in
      let moves : Moves n.shared_bank.bank n.left.bank = step-moves index step before after answer n.acts.acts in
      let at : IsKnownSpot (Some n.left.bank) reach.spot =
      subst (λ (o : Option View). IsKnownSpot o reach.spot) bank-after known in
      ap (λ (o : Option View). part_of o p) bank-after
      ∙ part-left n.shared_bank.bank n.left.bank reach.spot p moves at h
      ∙ ap (λ (o : Option View). part_of o p) (sym bank-before)

  -- a cell that the step does not reach
  cell-same : (cell : Cell) → may_change reach cell ≡ false → cell_text new cell ≡ cell_text old cell
  cell-same cell h =
      elim (cases_eq cell.bank reach.bank) [
        | inl q ↦
            let holds : (cell.bank == reach.bank) ≡ true = eq-eqb cell.bank reach.bank q in
            let untouched : touches_if reach.spot cell.part ≡ false =
            subst (λ (t : Bool). (t && touches_if reach.spot cell.part) ≡ false) holds h in
            ap (λ (number : ℕ). part_of (bank_at new number) cell.part) q ∙ here-same cell.part untouched
            ∙ ap (λ (number : ℕ). part_of (bank_at old number) cell.part) (sym q)
        | inr ne ↦ ap (λ (o : Option View). part_of o cell.part) (bank-other cell.bank ne)
      ]

  -- so a state that shows what all cells showed shows what they show now, but for those that the step reaches
  pub shown-but : (cells : List Cell) (state : List (List ℕ)) → state ≡ state_shown old cells → IsShownBut new cells reach state
  shown-but cells state shows = record {
    size = ap length shows ∙ length-map cells (cell_text old);
    shown = λ place cell at h.
        ap (λ (xs : List (List ℕ)). slice_get xs place) shows
        ∙ slice_get-map (cell_text old) cells place
        ∙ ap (λ (o : Option Cell). option_map (cell_text old) o) at
        ∙ ap (λ (t : List ℕ). Some t) (sym (cell-same cell h));
  }
