-- What `parse` and `from_str_radix` give for the words of a script.
use Rattle.std.proofs.Common.{◌≡◌, ℕ, ◌<◌, ◌≤◌, ◌^◌, Bool, true, false, ◌||◌, nat_lt, cond, List, [], ◌∷◌, length, get_or, drop, ◌++◌, Result, Ok, Err, Option, Some, None, inl, inr, eqb, refl, sym, ap, take, ◌-◌, append_assoc, rules, arith}
use Rattle.std.proofs.lemmas.Bool.{lt-ltb, le-ltb, cases_lt, eqb-false, false≢true, or_parts}
use Rattle.std.proofs.lemmas.Str.Parse.{IsNumeralModel, numerals_by_value, IsDigitsTest, parse_digits}
use Rattle.std.proofs.Math.Bool.{or-true}
use Rattle.std.proofs.Math.Seq.{take-length}
use Rattle.std.proofs.lemmas.List.{length-append}
use Rattle.std.specs.Char.{is_ascii_digit}
use Rattle.std.specs.List.{list_all}
use Rattle.std.specs.Result.{result_ok, OkIff}
use Rattle.std.specs.Str.Parse.{digits_value, ParsesUnsigned}
use Rattle.tl_script_words.specs.Reads.{◌>>=◌}
use Rattle.tl_script_words.specs.Words.{is_plain, number_of, byte_of, bytes_of, access_of, block_of, with_first}

-- just the texts of decimal digits have a decimal digit at every place
is_digits_test : IsDigitsTest (λ ds. list_all is_ascii_digit ds ≡ true)
is_digits_test = search rules

-- such a text, with the value of its digits, is a decimal numeral
pub own : IsNumeralModel (λ ds. list_all is_ascii_digit ds ≡ true) (digits_value 10)
own = numerals_by_value _ is_digits_test

-- a choice that is true was the second one, where the first is false
pub chosen_false : (b x : Bool) → cond b false x ≡ true → (b ≡ false) × (x ≡ true)
chosen_false true x h = absurd (false≢true h)
chosen_false false x h = (refl, h)

-- an answer that is there exactly where the value is in range
kept : {E : Type 0} (P : Type 0) (v most : ℕ) (r : Result ℕ E) → P → OkIff r (P × (v < most)) v → result_ok r ≡ cond (nat_lt v most) (Some v) None
kept P v most (Ok x) p h = rw (lt-ltb v most h.0.1, h.1) refl
kept P v most (Err e) p h = elim (cases_lt v most) [
  | inl lt ↦ absurd (h (p, lt))
  | inr ge ↦ rw (le-ltb v most ge) refl
]

-- a number that is not 0 is above 0
pub not_zero : (n : ℕ) → eqb n 0 ≡ false → 0 < n
not_zero n h = omega (arith, eqb-false n 0 h)

-- what `parse` gives for a plain text is its number in the grammar, if it has one
pub number_gives : {E : Type 0} (text : List ℕ) (r : Result ℕ E) → is_plain text ≡ true → ParsesUnsigned 32 10 text r → result_ok r ≡ number_of text
number_gives text r plain h =
    let parts = chosen_false _ _ plain in
    let some = not_zero (length text) (or_parts _ _ parts.0).0 in
    let gives = parse_digits own 32 text r h parts.1 in
    let got = kept (0 < length text) (digits_value 10 text) (2 ^ 32) r some gives in
    rw plain got

-- some bytes before the others
abbrev pub with_front : List ℕ → Option (List ℕ) → Option (List ℕ)
with_front front None = None
with_front front (Some bytes) = Some (front ++ bytes)

-- a byte that is read next goes behind those read before
regroup : (front : List ℕ) (b : ℕ) (read : Option (List ℕ)) → with_front front (with_first (Some b) read) ≡ with_front (front ++ b ∷ []) read
regroup front b None = refl
regroup front b (Some bytes) = ap (λ (bs : List ℕ). Some bs) (simp append_assoc)

-- one more pair of digits is read
pub goes_on : (front rest : List ℕ) (total : Option (List ℕ)) (b : ℕ) → 2 ≤ length rest → Some b ≡ byte_of (get_or rest 0 0) (get_or rest 1 0)
    → with_front front (bytes_of rest) ≡ total → with_front (front ++ b ∷ []) (bytes_of (take (length rest - 2) (drop 2 rest))) ≡ total
goes_on front [] total b two e h = absurd (omega (arith, two))
goes_on front (x ∷ []) total b two e h = absurd (omega (arith, two))
goes_on front (high ∷ low ∷ rest) total b two e h =
    let same : byte_of high low ≡ Some b = sym e in
    let k : length (high ∷ low ∷ rest) - 2 ≡ length rest = omega arith in
    let all : take (length rest) rest ≡ rest = take-length rest in
    let now : with_front front (with_first (byte_of high low) (bytes_of rest)) ≡ total = h in
    rw (k, all, ← regroup front b (bytes_of rest)) (rw same at now)

-- the bytes, where an access may have so many
abbrev kept_in : List ℕ → Option (List ℕ)
kept_in bytes = cond (eqb (length bytes) 0 || nat_lt 8 (length bytes)) None (Some bytes)

-- more than eight bytes are none that an access may have
too_long : (bytes : List ℕ) → 8 < length bytes → kept_in bytes ≡ None
too_long bytes h = rw (lt-ltb 8 (length bytes) h, or-true (eqb (length bytes) 0)) refl

-- and so are none with eight bytes in front of one more
none_after_eight : (front : List ℕ) (b : Option ℕ) (read : Option (List ℕ)) → 8 ≤ length front → (with_front front (with_first b read) >>= kept_in) ≡ None
none_after_eight front None read h = refl
none_after_eight front (Some b) None h = refl
none_after_eight front (Some b) (Some bytes) h = too_long (front ++ b ∷ bytes) (omega (arith, h, length-append front (b ∷ bytes)))

-- a text that has one more pair of digits after eight bytes has no bytes of an access
pub too_many_pairs : (front rest text : List ℕ) → 8 ≤ length front → 2 ≤ length rest → with_front front (bytes_of rest) ≡ bytes_of text → access_of text ≡ None
unfolding access_of
too_many_pairs front [] text h two e = absurd (omega (arith, two))
too_many_pairs front (x ∷ []) text h two e = absurd (omega (arith, two))
too_many_pairs front (high ∷ low ∷ rest) text h two e = rw (← e) (none_after_eight front (byte_of high low) (bytes_of rest) h)

-- the bytes, where a block may have so many
abbrev pub kept_of_block : List ℕ → Option (List ℕ)
kept_of_block bytes = cond (nat_lt 64 (length bytes)) None (Some bytes)

-- 64 bytes in front of one more are none of a block
none_after_block : (front : List ℕ) (b : Option ℕ) (read : Option (List ℕ)) → 64 ≤ length front
    → (with_front front (with_first b read) >>= kept_of_block) ≡ None
none_after_block front None read h = refl
none_after_block front (Some b) None h = refl
none_after_block front (Some b) (Some bytes) h =
    let more : 64 < length (front ++ b ∷ bytes) = omega (arith, h, length-append front (b ∷ bytes)) in
    rw (lt-ltb 64 (length (front ++ b ∷ bytes)) more) refl

-- a text that has one more pair of digits after 64 bytes has no bytes of a block
pub too_many_of_block : (front rest text : List ℕ) → 64 ≤ length front → 2 ≤ length rest → with_front front (bytes_of rest) ≡ bytes_of text → block_of text ≡ None
unfolding block_of
too_many_of_block front [] text h two e = absurd (omega (arith, two))
too_many_of_block front (x ∷ []) text h two e = absurd (omega (arith, two))
too_many_of_block front (high ∷ low ∷ rest) text h two e = rw (← e) (none_after_block front (byte_of high low) (bytes_of rest) h)

-- bytes are those of a block where they are no more than 64
pub few_of_block : (text bytes : List ℕ) → bytes_of text ≡ Some bytes → block_of text ≡ kept_of_block bytes
unfolding block_of
few_of_block text bytes h = rw h refl

pub none_of_block : (text : List ℕ) → bytes_of text ≡ None → block_of text ≡ None
unfolding block_of
none_of_block text h = rw h refl
