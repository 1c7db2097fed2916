-- A number is in the grammar just where it is written as it prints.
use Rattle.std.proofs.Common.{◌≡◌, ℕ, ◌<◌, ◌^◌, Bool, true, false, ◌&&◌, nat_lt, eqb, cond, List, length, get_or, Some, None, refl, sym, ap, ◌∙◌, inl, inr, decimal, arith}
use Rattle.std.proofs.lemmas.Bool.{and_parts, and_from, eq-eqb, cases_lt, lt-ltb, ltb-true, false≢true, or_parts}
use Rattle.std.proofs.lemmas.Fmt.{decimal-digits_value}
use Rattle.std.proofs.lemmas.Option.{same_Some}
use Rattle.std.specs.Str.Parse.{digits_value}
use Rattle.tl_script_words.specs.Words.{is_plain, number_of}
use Rattle.tl_script_words.proofs.WordLemmas.{own, chosen_false, not_zero}

-- a number given only where a test is met: the test is met, and it is that number
chosen : (b : Bool) (v n : ℕ) → cond b (Some v) None ≡ Some n → (b ≡ true) × (v ≡ n)
chosen true v n e = (refl, same_Some _ _ e)
chosen false v n e = cc

-- a text that starts with 0, as only a single character may, is a single character
single : (text : List ℕ) → (nat_lt 1 (length text) && eqb (get_or text 0 0) 48) ≡ false → 0 < length text → get_or text 0 0 ≡ 48 → length text ≡ 1
single text h some e = elim (cases_lt 1 (length text)) [
  | inl lt ↦ absurd (false≢true (sym h ∙ and_from _ _ (lt-ltb 1 (length text) lt) (eq-eqb (get_or text 0 0) 48 e)))
  | inr le ↦ omega arith
]

-- a text that gives a number is written as the number prints
pub is_printed : (text : List ℕ) (n : ℕ) → number_of text ≡ Some n → text ≡ decimal n
is_printed text n e =
    let c = chosen (is_plain text && nat_lt (digits_value 10 text) (2 ^ 32)) (digits_value 10 text) n e in
    let parts = and_parts (is_plain text) (nat_lt (digits_value 10 text) (2 ^ 32)) c.0 in
    let plain = chosen_false _ _ parts.0 in
    let both = or_parts _ _ plain.0 in
    let some = not_zero (length text) both.0 in
    let small : digits_value 10 text < 2 ^ 64 = omega (arith, ltb-true (digits_value 10 text) (2 ^ 32) parts.1) in
    sym (decimal-digits_value own text plain.1 some (single text both.1 some) small) ∙ ap decimal c.1
