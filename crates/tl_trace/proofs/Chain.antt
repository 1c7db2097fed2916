-- One more step at the end of those that were played.
use Rattle.std.proofs.Common.{◌≡◌, ℕ, suc, ◌+◌, ◌<◌, List, [], ◌∷◌, ◌++◌, length, take, get_or, refl, sym, ap, ◌∙◌, subst, arith}
use Rattle.std.proofs.lemmas.List.{take_more, length-take-le}
use Rattle.tl_script_words.specs.declared.step.Step.{Step}
use Rattle.tl_text.specs.declared.answer.Answer.{Answer}
use Rattle.tl_trace.specs.NetworkSteps.{AreNetworkSteps, IsNetworkStep}
use Rattle.tl_trace.specs.NetworkState.{NetworkState}

-- one more step after some that were played is played with them, and its answer comes last
pub performs-push : (index : ℕ) (steps : List Step) (old mid new : NetworkState) (answers : List Answer) (step : Step) (answer : Answer)
    → AreNetworkSteps index steps old answers mid → IsNetworkStep (index + length steps) step mid new answer
    → AreNetworkSteps index (steps ++ step ∷ []) old (answers ++ answer ∷ []) new
performs-push index [] old mid new [] step answer h plays =
    let at : index + 0 ≡ index = omega arith in (
      new,
      subst (λ (s : NetworkState). IsNetworkStep index step s new answer) h (subst (λ (n : ℕ). IsNetworkStep n step mid new answer) at plays),
      refl,
    )
performs-push index [] old mid new (first ∷ answers) step answer h plays = absurd h
performs-push index (first ∷ steps) old mid new [] step answer h plays = absurd h
performs-push index (first ∷ steps) old mid new (given ∷ answers) step answer h plays =
    let at : index + suc (length steps) ≡ suc index + length steps = omega arith in (
      h.0,
      h.1,
      performs-push (suc index) steps h.0 mid new answers step answer h.2
          (subst (λ (n : ℕ). IsNetworkStep n step mid new answer) at plays),
    )

-- one more of these steps was played
pub performs-more : (steps : List Step) (i : ℕ) (step : Step) (old mid new : NetworkState) (answers more : List Answer) (answer : Answer)
    → i < length steps → step ≡ get_or steps i step → AreNetworkSteps 0 (take i steps) old answers mid → IsNetworkStep i step mid new answer
    → more ≡ answers ++ answer ∷ [] → AreNetworkSteps 0 (take (i + 1) steps) old more new
performs-more steps i step old mid new answers more answer lt at h plays is =
    let t : take (i + 1) steps ≡ take i steps ++ step ∷ [] =
    take_more steps i step lt ∙ ap (λ (x : Step). take i steps ++ x ∷ []) (sym at) in
    let index : i ≡ 0 + length (take i steps) = omega (arith, length-take-le i steps (omega arith)) in
    subst (λ (xs : List Step). AreNetworkSteps 0 xs old more new) (sym t)
    (subst (λ (ys : List Answer). AreNetworkSteps 0 (take i steps ++ step ∷ []) old ys new) (sym is)
    (performs-push 0 (take i steps) old mid new answers step answer h
    (subst (λ (n : ℕ). IsNetworkStep n step mid new answer) index plays)))
