-- The fields that words write, one after another.
use Rattle.std.proofs.Common.{◌≡◌, ℕ, ◌-◌, ◌<◌, ◌≤◌, List, [], ◌∷◌, length, take, drop, get_or, Result, Ok, Err, refl, sym, ◌∙◌, ap, subst, arith, eqb}
use Rattle.std.specs.Borrow.{Bor}
use Rattle.std.proofs.lemmas.List.Splits.{length-slice_split}
use Rattle.std.proofs.Math.Seq.{take-length}
use Rattle.tlcheck_record.specs.Cause.{◌>>=◌, Gives, Refuses}
use Rattle.tl_script_words.specs.Words.{texts}
use Rattle.tlcheck_record.specs.declared.cause.Cause.{Cause}
use Rattle.tlcheck_record.specs.declared.cause.Cause.TheVariants as cause
use Rattle.tlcheck_record.specs.declared.cause.LineError.{LineError}
use Rattle.tlcheck_record.specs.declared.cause.LineError.TheVariants.{Wrong, Memory}
use Rattle.tlwire_record.specs.Fields.{field_by, field_in, field_of, fields_in, pair_of, with_field, with_word}
use Rattle.tlwire_record.specs.declared.fields.Field.{Field}
use Rattle.tlwire_record.specs.declared.fields.Fields.{Fields}

-- a word with no `=` writes no field
pub one_part : (word key : List ℕ) → pair_of word ≡ key ∷ [] → field_of word ≡ Err cause.Key
unfolding field_in
one_part word key h = ap (λ (parts : List (List ℕ)). field_in parts) h

-- nor do more than two parts
more : (key value : List ℕ) (parts : List (List ℕ)) → 0 < length parts → field_in (key ∷ value ∷ parts) ≡ Err cause.Key
unfolding field_in
more key value [] h = absurd (omega (arith, h))
more key value (p ∷ ps) h = refl

pub more_parts : (word key behind value rest : List ℕ) → pair_of word ≡ key ∷ pair_of behind → pair_of behind ≡ value ∷ pair_of rest
    → field_of word ≡ Err cause.Key
more_parts word key behind value rest h next =
    ap (λ (parts : List (List ℕ)). field_in parts) (h ∙ ap (λ (parts : List (List ℕ)). key ∷ parts) next)
    ∙ more key value (pair_of rest) (omega (arith, length-slice_split (λ b. eqb b 61) rest))

-- a key and a value write their field
pub two_parts : (word key value : List ℕ) → pair_of word ≡ key ∷ value ∷ [] → field_of word ≡ field_by key value
unfolding field_in
two_parts word key value h = ap (λ (parts : List (List ℕ)). field_in parts) h

module _ (have : Fields) (rest : List (List ℕ)) where
  -- the fields behind a field
  abbrev pub behind : Result Field Cause → Result Fields Cause
  behind r = r >>= (λ f. with_field have f >>= (λ next. fields_in next rest))

  goes : (next : Fields) (r : Result Field Cause) → (r >>= (λ f. with_field have f)) ≡ Ok next → behind r ≡ fields_in next rest
  goes next (Ok f) h = ap (λ (o : Result Fields Cause). o >>= (λ n. fields_in n rest)) h
  goes next (Err e) h = cc

  ends : (c : Cause) (r : Result Field Cause) → (r >>= (λ f. with_field have f)) ≡ Err c → behind r ≡ Err c
  ends c (Ok f) h = ap (λ (o : Result Fields Cause). o >>= (λ n. fields_in n rest)) h
  ends c (Err e) h = ap (λ (o : Result Fields Cause). o >>= (λ n. fields_in n rest)) h

  -- one field more
  pub goes_on : (next : Fields) (word : List ℕ) → with_word have word ≡ Ok next → fields_in have (word ∷ rest) ≡ fields_in next rest
  unfolding fields_in
  goes_on next word h = goes next (field_of word) h

  -- a word that writes none, or one that is there
  pub stops : (e : LineError) (word : List ℕ) → Refuses e (with_word have word) → Refuses e (fields_in have (word ∷ rest))
  unfolding fields_in
  stops (Wrong c) word h = ends c (field_of word) h
  stops Memory word h = tt

-- ## One word after another

-- one more word adds its field
added : (next : Fields) (r : Result (Unit {0}) LineError) (u : Unit {0}) (o : Result Fields Cause) → r ≡ Ok u → Gives {X = Unit {0}} (λ _. next) r o → o ≡ Ok next
added next (Ok x) u o is h = h
added next (Err e) u o is h = cc

pub one_more :
    (total : Result Fields Cause) (have next : Fields) (rest : List (Bor (List ℕ))) (d : Bor (List ℕ)) (r : Result (Unit {0}) LineError) (u : Unit {0})
    → 1 ≤ length rest → r ≡ Ok u → Gives {X = Unit {0}} (λ _. next) r (with_word have (get_or rest 0 d).now) → total ≡ fields_in have (texts rest)
    → total ≡ fields_in next (texts (take (length rest - 1) (drop 1 rest)))
one_more total have next [] d r u some is e h = absurd (omega (arith, some))
one_more total have next (w ∷ ws) d r u some is e h =
    let n : length (w ∷ ws) - 1 ≡ length ws = omega arith in
    let all : take (length (w ∷ ws) - 1) (drop 1 (w ∷ ws)) ≡ ws = ap (λ k. take k ws) n ∙ take-length ws in
    h ∙ (goes_on have (texts ws) next w.now (added next r u (with_word have w.now) is e) ∙ ap (λ (ls : List (Bor (List ℕ))). fields_in next (texts ls)) (sym all))

-- a word that is refused ends it
refused : (next : Fields) (r : Result (Unit {0}) LineError) (e : LineError) (o : Result Fields Cause) → r ≡ Err e → Gives {X = Unit {0}} (λ _. next) r o → Refuses e o
refused next (Ok x) e o is h = cc
refused next (Err x) e o is h = subst (λ (y : LineError). Refuses y o) (ap (λ (s : Result (Unit {0}) LineError). error_in e s) is) h
  where
    error_in : LineError → Result (Unit {0}) LineError → LineError
    error_in d (Ok y) = d
    error_in d (Err y) = y

pub no_more :
    (total : Result Fields Cause) (have next : Fields) (rest : List (Bor (List ℕ))) (d : Bor (List ℕ)) (r : Result (Unit {0}) LineError) (e : LineError)
    (out : Result (Unit {0}) LineError) → 1 ≤ length rest → r ≡ Err e → out ≡ Err e → Gives {X = Unit {0}} (λ _. next) r (with_word have (get_or rest 0 d).now)
    → total ≡ fields_in have (texts rest) → Gives {X = Unit {0}} (λ _. next) out total
no_more total have next [] d r e out some is err g h = absurd (omega (arith, some))
no_more total have next (w ∷ ws) d r e out some is err g h =
    subst (λ (o : Result (Unit {0}) LineError). Gives {X = Unit {0}} (λ _. next) o total) (sym err)
    (subst (λ (o : Result Fields Cause). Refuses e o) (sym h) (stops have (texts ws) e w.now (refused next r e (with_word have w.now) is g)))

-- no word is left
pub at_end : (total : Result Fields Cause) (have : Fields) (rest : List (Bor (List ℕ))) → length rest < 1 → total ≡ fields_in have (texts rest) → total ≡ Ok have
unfolding fields_in
at_end total have [] lt h = h
at_end total have (w ∷ ws) lt h = absurd (omega (arith, lt))
