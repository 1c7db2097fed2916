-- One more frame at the end of a film.
use Rattle.std.proofs.Common.{◌≡◌, ℕ, suc, ◌+◌, ◌<◌, List, [], ◌∷◌, ◌++◌, length, take, get_or, refl, sym, ap, ◌∙◌, subst, arith}
use Rattle.std.proofs.lemmas.List.{take_more, length-take-le}
use Rattle.tl_script_words.specs.declared.step.Step.{Step}
use Rattle.tl_text.specs.declared.answer.Answer.{Answer}
use Rattle.tl_trace.specs.NetworkSteps.{IsNetworkStep}
use Rattle.tl_trace.specs.NetworkState.{NetworkState}
use Rattle.tlchart_page.specs.Film.{AreFrames, changed}
use Rattle.tlchart_page.specs.Parts.{state_shown}
use Rattle.tlchart_page.specs.declared.film.Change.{Change}
use Rattle.tlchart_page.specs.declared.parts.Cell.{Cell}

-- one more step after some that were filmed is filmed with them
frames-push : (cells : List Cell) (index : ℕ) (steps : List Step) (old mid new : NetworkState) (answers : List Answer) (frames : List (List Change))
    (step : Step) (answer : Answer) (changes : List Change)
    → AreFrames cells index steps old answers frames mid → IsNetworkStep (index + length steps) step mid new answer
    → changed (state_shown mid cells) changes ≡ state_shown new cells
    → AreFrames cells index (steps ++ step ∷ []) old (answers ++ answer ∷ []) (frames ++ changes ∷ []) new
frames-push cells index [] old mid new [] [] step answer changes h plays shows =
    let at : index + 0 ≡ index = omega arith in (
      new,
      subst (λ (s : NetworkState). IsNetworkStep index step s new answer) h (subst (λ (n : ℕ). IsNetworkStep n step mid new answer) at plays),
      subst (λ (s : NetworkState). changed (state_shown s cells) changes ≡ state_shown new cells) h shows,
      refl,
    )
frames-push cells index [] old mid new [] (c ∷ frames) step answer changes h plays shows = absurd h
frames-push cells index [] old mid new (a ∷ answers) [] step answer changes h plays shows = absurd h
frames-push cells index [] old mid new (a ∷ answers) (c ∷ frames) step answer changes h plays shows = absurd h
frames-push cells index (s ∷ steps) old mid new [] [] step answer changes h plays shows = absurd h
frames-push cells index (s ∷ steps) old mid new [] (c ∷ frames) step answer changes h plays shows = absurd h
frames-push cells index (s ∷ steps) old mid new (a ∷ answers) [] step answer changes h plays shows = absurd h
frames-push cells index (s ∷ steps) old mid new (a ∷ answers) (c ∷ frames) step answer changes h plays shows =
    let at : index + suc (length steps) ≡ suc index + length steps = omega arith in (
      h.0,
      h.1,
      h.2,
      frames-push cells (suc index) steps h.0 mid new answers frames step answer changes h.3
          (subst (λ (n : ℕ). IsNetworkStep n step mid new answer) at plays) shows,
    )

-- one more of these steps was filmed
pub frames-more : (cells : List Cell) (steps : List Step) (i : ℕ) (step : Step) (old mid new : NetworkState) (answers more : List Answer)
    (frames longer : List (List Change)) (answer : Answer) (changes : List Change)
    → i < length steps → step ≡ get_or steps i step → AreFrames cells 0 (take i steps) old answers frames mid
    → IsNetworkStep i step mid new answer → changed (state_shown mid cells) changes ≡ state_shown new cells
    → more ≡ answers ++ answer ∷ [] → longer ≡ frames ++ changes ∷ [] → AreFrames cells 0 (take (i + 1) steps) old more longer new
frames-more cells steps i step old mid new answers more frames longer answer changes lt at h plays shows is are =
    let t : take (i + 1) steps ≡ take i steps ++ step ∷ [] =
    take_more steps i step lt ∙ ap (λ (x : Step). take i steps ++ x ∷ []) (sym at) in
    let index : i ≡ 0 + length (take i steps) = omega (arith, length-take-le i steps (omega arith)) in
    subst (λ (xs : List Step). AreFrames cells 0 xs old more longer new) (sym t)
    (subst (λ (ys : List Answer). AreFrames cells 0 (take i steps ++ step ∷ []) old ys longer new) (sym is)
    (subst (λ (zs : List (List Change)). AreFrames cells 0 (take i steps ++ step ∷ []) old (answers ++ answer ∷ []) zs new) (sym are)
    (frames-push cells 0 (take i steps) old mid new answers frames step answer changes h
    (subst (λ (n : ℕ). IsNetworkStep n step mid new answer) index plays) shows)))
