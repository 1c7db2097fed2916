-- What one more line leads to.
use Rattle.std.proofs.Common.{◌≡◌, ℕ, suc, ◌+◌, ◌<◌, Bool, false, cond, List, [], ◌∷◌, length, get_or, drop, Result, Ok, Err, sym, ◌∙◌, ap, subst, arith, add-one, drop-cons}
use Rattle.std.specs.Borrow.{Bor}
use Rattle.std.proofs.lemmas.List.{get_or-map, length-map}
use Rattle.tlcheck_record.specs.Words.{is_blank, text_in}
use Rattle.tl_script_words.specs.Words.{texts}
use Rattle.tlcheck_record.specs.Cause.{◌>>=◌, Gives, Refuses}
use Rattle.tlwire_record.specs.Reading.{after_lines, after_text, and_then, at_line, text_taken}
use Rattle.tlcheck_record.specs.declared.cause.Cause.{Cause}
use Rattle.tlcheck_record.specs.declared.cause.LineError.{LineError}
use Rattle.tlcheck_record.specs.declared.cause.LineError.TheVariants.{Wrong}
use Rattle.tlwire_record.specs.declared.stage.Stage.{Stage}

-- a line that is a text
pub text_line :
    (stage after : Stage) (number : ℕ) (text t : List ℕ) (result : Result (Unit {0}) LineError) → is_blank text ≡ false → text_in text ≡ Ok t
    → Gives {X = Unit {0}} (λ _. after) result (text_taken stage number t) → Gives {X = Unit {0}} (λ _. after) result (after_text stage number text)
text_line stage after number text t result b e h =
    subst (λ (o : Result Stage Cause). Gives {X = Unit {0}} (λ _. after) result o)
    (sym (ap (λ (v : Bool). cond v (Ok stage) (text_in text >>= (λ x. text_taken stage number x))) b
    ∙ ap (λ (o : Result (List ℕ) Cause). o >>= (λ x. text_taken stage number x)) e)) h

-- one that is none
pub no_text :
    (stage after : Stage) (number : ℕ) (text : List ℕ) (cause : Cause) → is_blank text ≡ false → text_in text ≡ Err cause
    → Gives {X = Unit {0}} (λ _. after) (Err (Wrong cause)) (after_text stage number text)
no_text stage after number text cause b e =
    ap (λ (v : Bool). cond v (Ok stage) (text_in text >>= (λ x. text_taken stage number x))) b
    ∙ ap (λ (o : Result (List ℕ) Cause). o >>= (λ x. text_taken stage number x)) e

-- the text of a line
text_at : (lines : List (Bor (List ℕ))) (place : ℕ) (d : Bor (List ℕ)) → place < length lines → get_or (texts lines) place [] ≡ (get_or lines place d).now
text_at lines place d h = get_or-map (λ (w : Bor (List ℕ)). w.now) lines place d [] h

-- the lines from one on are that line and those behind it
from_one :
    (lines : List (Bor (List ℕ))) (place : ℕ) (d : Bor (List ℕ)) → place < length lines
    → drop place (texts lines) ≡ (get_or lines place d).now ∷ drop (place + 1) (texts lines)
from_one lines place d h =
    let inside : place < length (texts lines) = omega (arith, length-map lines (λ (w : Bor (List ℕ)). w.now)) in
    rw (add-one place) (drop-cons (texts lines) place [] inside ∙ ap (λ (x : List ℕ). x ∷ drop (suc place) (texts lines)) (text_at lines place d h))

-- what a line leads to
abbrev leads : (lines : List (List ℕ)) (place : ℕ) → Result Stage Cause → Result Stage (ℕ × Cause)
leads lines place r = and_then (at_line (place + 1) r) (λ after. after_lines (place + 1) after (drop (place + 1) lines))

-- the lines from one on lead where that line does
by_one :
    (lines : List (Bor (List ℕ))) (place number : ℕ) (d : Bor (List ℕ)) (stage : Stage) (r : Result Stage Cause) → number ≡ place
    → place < length lines → after_text stage (number + 1) (get_or lines place d).now ≡ r
    → after_lines place stage (drop place (texts lines)) ≡ leads (texts lines) place r
by_one lines place number d stage r n h t =
    ap (λ (ls : List (List ℕ)). after_lines place stage ls) (from_one lines place d h)
    ∙ ap (λ (x : Result Stage Cause). leads (texts lines) place x) (subst (λ (k : ℕ). after_text stage (k + 1) (get_or lines place d).now ≡ r) n t)

-- one line more is in the format
pub goes_on :
    (lines : List (Bor (List ℕ))) (place number : ℕ) (d : Bor (List ℕ)) (stage after : Stage) → number ≡ place → place < length lines
    → after_text stage (number + 1) (get_or lines place d).now ≡ Ok after
    → after_lines place stage (drop place (texts lines)) ≡ after_lines (place + 1) after (drop (place + 1) (texts lines))
goes_on lines place number d stage after n h t = by_one lines place number d stage (Ok after) n h t

-- one line more is not
pub stops :
    (lines : List (Bor (List ℕ))) (place number : ℕ) (d : Bor (List ℕ)) (stage : Stage) (e : LineError) (f g : Cause) → number ≡ place
    → place < length lines → e ≡ Wrong f → g ≡ f → Refuses e (after_text stage (number + 1) (get_or lines place d).now)
    → after_lines place stage (drop place (texts lines)) ≡ Err (number + 1, g)
stops lines place number d stage e f g n h is same r =
    let at : ℕ → Cause → Result Stage (ℕ × Cause) = λ k x. Err (k + 1, x) in
    by_one lines place number d stage (Err f) n h (subst (λ (x : LineError). Refuses x (after_text stage (number + 1) (get_or lines place d).now)) is r)
    ∙ ap (λ (k : ℕ). at k f) (sym n) ∙ ap (λ (x : Cause). at number x) (sym same)
