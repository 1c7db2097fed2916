-- One more answer.
use Rattle.std.proofs.Common.{◌≡◌, ◌≤◌, ◌<◌, ℕ, List, [], ◌∷◌, ◌++◌, length, take, slice_index_or, refl, sym, ◌∙◌, ap, subst, arith}
use Rattle.std.specs.List.{All}
use Rattle.std.proofs.lemmas.List.{length_push}
use Rattle.std.proofs.lemmas.List.Elements.{All-push}
use Rattle.tl_script_words.specs.declared.command.Command.{Command}
use Rattle.tl_script_words.specs.declared.command.Command.TheVariants.{Load, Store, Drop}
use Rattle.tl_client_ports.specs.declared.port.Success.{Success}
use Rattle.tl_text.specs.declared.report.Answered.{Answered}
use Rattle.tl_client.specs.Answers.{Gains, HasItsBytes, IsAnswer, AgentView, answered_of, clock_after, commands_of, success_at, successes_of}

-- as many answers as got bytes
pub length-answered : (bytes : List (List ℕ)) (script : List Command) → length bytes ≤ length script
    → length (answered_of bytes script) ≡ length bytes
length-answered [] script h = refl
length-answered (b ∷ bytes) [] h = absurd (omega arith)
length-answered (b ∷ bytes) (c ∷ script) h = omega (arith, length-answered bytes script (omega arith))

-- and their commands are the script's first
pub commands-answered : (bytes : List (List ℕ)) (script : List Command) → length bytes ≤ length script
    → commands_of (answered_of bytes script) ≡ take (length bytes) script
commands-answered [] script h = refl
commands-answered (b ∷ bytes) [] h = absurd (omega arith)
commands-answered (b ∷ bytes) (c ∷ script) h = ap (λ rest. c ∷ rest) (commands-answered bytes script (omega arith))

-- the next command is answered with the next bytes
pub answered-push : (bytes : List (List ℕ)) (script : List Command) (b : List ℕ) (c : Command) → length bytes < length script
    → c ≡ slice_index_or script (length bytes) c
    → answered_of (bytes ++ b ∷ []) script ≡ answered_of bytes script ++ record { command = c; bytes = b } ∷ []
answered-push [] [] b c h e = absurd (omega arith)
answered-push [] (x ∷ script) b c h e = ap (λ y. record { command = y; bytes = b } ∷ []) (sym e)
answered-push (a ∷ bytes) [] b c h e = absurd (omega arith)
answered-push (a ∷ bytes) (x ∷ script) b c h e =
    ap (λ rest. record { command = x; bytes = a } ∷ rest) (answered-push bytes script b c (omega arith) e)

-- with it the answers are a beginning of the script, each with its bytes
pub beginning-push : (bytes new : List (List ℕ)) (script : List Command) (b : List ℕ) (c : Command) → new ≡ bytes ++ b ∷ []
    → length bytes < length script → c ≡ slice_index_or script (length bytes) c
    → All IsAnswer (answered_of bytes script) → HasItsBytes c b
    → (commands_of (answered_of new script) ≡ take (length (answered_of new script)) script) × All IsAnswer (answered_of new script)
beginning-push bytes new script b c e h i each last =
    let pushed = length_push bytes b in
    let fits : length new ≤ length script = omega (arith, ap (λ (xs : List (List ℕ)). length xs) e) in (
      commands-answered new script fits ∙ ap (λ n. take n script) (sym (length-answered new script fits)),
      subst (All IsAnswer) (sym (ap (λ xs. answered_of xs script) e ∙ answered-push bytes script b c h i))
          (All-push IsAnswer (answered_of bytes script) (record { command = c; bytes = b }) each last),
    )

-- the success of one answer is what a port gains by its command
pub gains-one : (t : AgentView) (client clock index stamp : ℕ) (c : Command) (b : List ℕ) (was is : List Success)
    → t.links.client ≡ client → t.clock ≡ clock → length t.answered ≡ index
    → is ≡ was ++ success_at client (record { clock = clock; index = index }) c b stamp
    → stamp ≡ clock_after clock (success_at client (record { clock = clock; index = index }) c b stamp)
    → (is ≡ was ++ successes_of t (record { command = c; bytes = b } ∷ []) stamp)
    × (stamp ≡ clock_after t.clock (successes_of t (record { command = c; bytes = b } ∷ []) stamp))
gains-one t client clock index stamp (Load address len) b was is e f g gain after = rw (e, f, g) (gain, after)
gains-one t client clock index stamp (Store address stored) b was is e f g gain after = rw (e, f, g) (gain, after)
gains-one t client clock index stamp (Drop address) b was is e f g gain after = (gain, after ∙ sym f)

-- answers by an agent with the same client, clock and answers have the same successes
successes-same : (t u : AgentView) (xs : List Answered) (stamp : ℕ) → t.links.client ≡ u.links.client → t.clock ≡ u.clock → t.answered ≡ u.answered
    → successes_of t xs stamp ≡ successes_of u xs stamp
successes-same t u [] stamp e f h = refl
successes-same t u (a ∷ rest) stamp e f h = rw (e, f, h, successes-same t u rest stamp e f h) refl

-- what an agent gained between two moments it gained from before to after, if nothing was gained there
pub gains-same : (t t1 t2 t3 : AgentView) (was was1 is is3 : List Success)
    → t1.links.client ≡ t.links.client → t1.script ≡ t.script → t1.answered ≡ t.answered → t1.clock ≡ t.clock → was1 ≡ was → Gains t1 was1 t2 is
    → t3.links.client ≡ t2.links.client → t3.script ≡ t2.script → t3.answered ≡ t2.answered → t3.clock ≡ t2.clock → is3 ≡ is → Gains t was t3 is3
gains-same t t1 t2 t3 was was1 is is3 client script answered clock begins gains client' script' answered' clock' ends =
    let added : List Answered = gains.2.0 in
    let more : successes_of t1 added t2.clock ≡ successes_of t added t3.clock =
    successes-same t1 t added t2.clock client clock answered ∙ ap (λ (stamp : ℕ). successes_of t added stamp) (sym clock') in (
      client' ∙ gains.0 ∙ client,
      script' ∙ gains.1 ∙ script,
      (
        added,
        gains.2.1,
        answered' ∙ gains.2.2 ∙ ap (λ (xs : List Answered). xs ++ added) answered,
        ends ∙ gains.2.3 ∙ ap (λ (xs : List Success). xs ++ successes_of t1 added t2.clock) begins ∙ ap (λ (xs : List Success). was ++ xs) more,
        clock' ∙ gains.2.4 ∙ ap (λ (k : ℕ). clock_after k (successes_of t1 added t2.clock)) clock ∙ ap (λ (xs : List Success). clock_after t.clock xs) more,
      ),
    )
