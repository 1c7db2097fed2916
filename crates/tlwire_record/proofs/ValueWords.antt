-- A value that writes a field has no `=`.
use Rattle.std.proofs.Common.{◌≡◌, ◌&&◌, ◌||◌, ◌^◌, ℕ, not, Bool, true, false, cond, eqb, nat_lt, List, [], ◌∷◌, length, drop, codes, bytes_eq, Option, Some, None, is_some, Result, Ok, Err, ok_or, refl, sym, ◌∙◌, ap, subst, arith}
use Rattle.std.proofs.lemmas.Bool.{and_parts, eqb-true, false≢true}
use Rattle.std.proofs.lemmas.Bool.Decides.{nat_tests}
use Rattle.std.proofs.lemmas.List.Splits.{join_with_byte-slice_split}
use Rattle.std.specs.Char.{is_ascii_digit}
use Rattle.std.specs.List.{join_with_byte, list_all, starts_with}
use Rattle.std.specs.Str.Parse.{digits_value}
use Rattle.tl_script_words.proofs.WordLemmas.{chosen_false}
use Rattle.tl_script_words.specs.Words.{bytes_of, is_lower_hex, is_plain, with_first}
use Rattle.tlcheck_record.specs.Cause.{◌>>=◌, Refuses}
use Rattle.tlcheck_record.specs.Words.{block_bytes_in, number_in}
use Rattle.tlcheck_record.specs.declared.cause.Cause.{Cause}
use Rattle.tlcheck_record.specs.declared.cause.Cause.TheVariants as cause
use Rattle.tlcheck_record.specs.declared.cause.LineError.{LineError}
use Rattle.tlwire_record.specs.Address.{wide_address_in}
use Rattle.tlwire_record.specs.Fields.{field_by, field_of, pair_of, with_field, with_pair, with_word}
use Rattle.tlwire_record.specs.declared.fields.Field.{Field}
use Rattle.tlwire_record.specs.declared.fields.Field.TheVariants as field
use Rattle.tlwire_record.specs.declared.fields.Fields.{Fields}
use Rattle.tlwire_record.proofs.FieldWords.{two_parts}

-- ## Digits

decimal_other : (x : ℕ) → is_ascii_digit x ≡ true → eqb x 61 ≡ false
decimal_other x h = grind (arith, nat_tests)

hex_other : (x : ℕ) → is_lower_hex x ≡ true → eqb x 61 ≡ false
hex_other x h = grind (arith, nat_tests)

-- one more byte
one_more : (x : ℕ) (xs : List ℕ) → eqb x 61 ≡ false → pair_of xs ≡ xs ∷ [] → pair_of (x ∷ xs) ≡ (x ∷ xs) ∷ []
one_more x xs other rest = rw (other, rest) refl

-- all bytes pass a test that `=` does not
of_digits : (p : ℕ → Bool) → ((x : ℕ) → p x ≡ true → eqb x 61 ≡ false) → (xs : List ℕ) → list_all p xs ≡ true → pair_of xs ≡ xs ∷ []
of_digits p other [] h = refl
of_digits p other (x ∷ xs) h =
    let both = and_parts (p x) (list_all p xs) h in
    one_more x xs (other x both.0) (of_digits p other xs both.1)

-- ## A number

plain_then : (b c : Bool) (v n : ℕ) → ok_or (cond (b && c) (Some v) None) cause.Number ≡ Ok n → b ≡ true
plain_then true c v n h = refl
plain_then false c v n h = cc

of_number : (text : List ℕ) (n : ℕ) → number_in text ≡ Ok n → pair_of text ≡ text ∷ []
of_number text n h =
    let plain : is_plain text ≡ true = plain_then (is_plain text) (nat_lt (digits_value 10 text) (2 ^ 32)) (digits_value 10 text) n h in
    of_digits is_ascii_digit decimal_other text (chosen_false _ _ plain).1

-- ## An address

started : (s k l : Bool) (v n : ℕ) → ok_or (cond (not s || k) None (cond l (Some v) None)) cause.Number ≡ Ok n → (s ≡ true) × (l ≡ true)
started false k l v n h = cc
started true true l v n h = cc
started true false true v n h = (refl, refl)
started true false false v n h = cc

behind_two : (text : List ℕ) → starts_with (λ a b. eqb a b) text (codes "0x") ≡ true → list_all is_lower_hex (drop 2 text) ≡ true → pair_of text ≡ text ∷ []
behind_two [] s l = cc
behind_two (a ∷ []) s l = absurd (false≢true (and_parts (eqb 48 a) false s).1)
behind_two (a ∷ b ∷ rest) s l =
    let first = and_parts (eqb 48 a) (eqb 120 b && true) s in
    let second = and_parts (eqb 120 b) true first.1 in
    let zero : eqb a 61 ≡ false = subst (λ (k : ℕ). eqb k 61 ≡ false) (eqb-true 48 a first.0) refl in
    let x : eqb b 61 ≡ false = subst (λ (k : ℕ). eqb k 61 ≡ false) (eqb-true 120 b second.0) refl in
    one_more a (b ∷ rest) zero (one_more b rest x (of_digits is_lower_hex hex_other rest l))

of_address : (text : List ℕ) (n : ℕ) → wide_address_in text ≡ Ok n → pair_of text ≡ text ∷ []
of_address text n h =
    let both =
    started (starts_with (λ a b. eqb a b) text (codes "0x")) (nat_lt (length text) 3 || nat_lt 18 (length text)) (list_all is_lower_hex (drop 2 text))
    (digits_value 16 (drop 2 text)) n h in
    behind_two text both.0 both.1

-- ## The bytes of a block

pair_then : (t u : Bool) (v : ℕ) (o : Option (List ℕ)) → is_some (with_first (cond (t && u) (Some v) None) o) ≡ true
    → (t ≡ true) × (u ≡ true) × (is_some o ≡ true)
pair_then false u v o h = cc
pair_then true false v o h = cc
pair_then true true v None h = cc
pair_then true true v (Some bs) h = (refl, refl, refl)

of_pairs : (text : List ℕ) → is_some (bytes_of text) ≡ true → pair_of text ≡ text ∷ []
of_pairs [] h = refl
of_pairs (high ∷ []) h = cc
of_pairs (high ∷ low ∷ rest) h =
    let parts = pair_then (is_lower_hex high) (is_lower_hex low) _ (bytes_of rest) h in
    one_more high (low ∷ rest) (hex_other high parts.0) (one_more low rest (hex_other low parts.1) (of_pairs rest parts.2))

some_then : (o : Option (List ℕ)) (f : List ℕ → Result (List ℕ) Cause) (bytes : List ℕ) → (ok_or o cause.Bytes >>= f) ≡ Ok bytes → is_some o ≡ true
some_then None f bytes h = cc
some_then (Some bs) f bytes h = refl

of_bytes : (text bytes : List ℕ) → block_bytes_in text ≡ Ok bytes → pair_of text ≡ text ∷ []
unfolding block_bytes_in
of_bytes text bytes h = of_pairs text (some_then (bytes_of text) _ bytes h)

-- ## A field

-- the value of a key, or of another one
by_key : {A : Type 0} (P : Type 0) (b : Bool) (r : Result A Cause) (g : A → Field) (other : Result Field Cause) (f : Field)
    → cond b (r >>= (λ x. Ok (g x))) other ≡ Ok f → ((x : A) → r ≡ Ok x → P) → (other ≡ Ok f → P) → P
by_key P true (Ok x) g other f h here there = here x refl
by_key P true (Err e) g other f h here there = cc
by_key P false r g other f h here there = there h

of_field : (key value : List ℕ) (f : Field) → field_by key value ≡ Ok f → pair_of value ≡ value ∷ []
unfolding field_by
of_field key value f h =
    let P : Type 0 = pair_of value ≡ value ∷ [] in
    by_key P (bytes_eq key (codes "param")) (number_in value) (λ (n : ℕ). field.Param n) _ f h (of_number value) (λ h.
    by_key P (bytes_eq key (codes "size")) (number_in value) (λ (n : ℕ). field.Size n) _ f h (of_number value) (λ h.
    by_key P (bytes_eq key (codes "source")) (number_in value) (λ (n : ℕ). field.Source n) _ f h (of_number value) (λ h.
    by_key P (bytes_eq key (codes "sink")) (number_in value) (λ (n : ℕ). field.Sink n) _ f h (of_number value) (λ h.
    by_key P (bytes_eq key (codes "address")) (wide_address_in value) (λ (n : ℕ). field.Address n) _ f h (of_address value) (λ h.
    by_key P (bytes_eq key (codes "data")) (block_bytes_in value) (λ (bytes : List ℕ). field.Data bytes) _ f h (of_bytes value) (λ h.
    by_key P (bytes_eq key (codes "denied")) (number_in value) (λ (n : ℕ). field.Denied n) _ f h (of_number value) (λ h.
    by_key P (bytes_eq key (codes "corrupt")) (number_in value) (λ (n : ℕ). field.Corrupt n) _ f h (of_number value) (λ h.
    by_key P (bytes_eq key (codes "mask")) (number_in value) (λ (n : ℕ). field.Mask n) _ f h (of_number value) (λ h. cc)))))))))

-- ## A word

was_read : (have next : Fields) (r : Result Field Cause) → (r >>= (λ f. with_field have f)) ≡ Ok next → (f : Field) × (r ≡ Ok f)
was_read have next (Ok f) h = (f, refl)
was_read have next (Err e) h = cc

-- where what stands behind its first `=` was read
pub added : (have next : Fields) (word key value : List ℕ) → pair_of word ≡ key ∷ pair_of value → with_pair have key value ≡ Ok next
    → with_word have word ≡ Ok next
added have next word key value parts h =
    let read = was_read have next (field_by key value) h in
    let two : pair_of word ≡ key ∷ value ∷ [] = parts ∙ ap (λ (ps : List (List ℕ)). key ∷ ps) (of_field key value read.0 read.1) in
    ap (λ (o : Result Field Cause). o >>= (λ f. with_field have f)) (two_parts word key value two) ∙ h

-- it has one `=`
pub refused_value : (have : Fields) (word key value first second : List ℕ) (e : LineError) → pair_of word ≡ key ∷ pair_of value
    → pair_of word ≡ first ∷ second ∷ [] → Refuses e (with_pair have key value) → Refuses e (with_word have word)
refused_value have word key value first second e parts two h =
    let tail : pair_of value ≡ second ∷ [] = ap (λ (ps : List (List ℕ)). drop 1 ps) (sym parts ∙ two) in
    let same : second ≡ value = ap (λ (ps : List (List ℕ)). join_with_byte 61 ps) (sym tail) ∙ join_with_byte-slice_split 61 value in
    let whole : pair_of word ≡ key ∷ value ∷ [] =
    parts ∙ ap (λ (ps : List (List ℕ)). key ∷ ps) (tail ∙ ap (λ (v : List ℕ). v ∷ []) same) in
    subst (λ (o : Result Field Cause). Refuses e (o >>= (λ f. with_field have f))) (sym (two_parts word key value whole)) h

-- it writes no field
pub refused_word : (have : Fields) (word : List ℕ) → field_of word ≡ Err cause.Key → with_word have word ≡ Err cause.Key
refused_word have word h = ap (λ (o : Result Field Cause). o >>= (λ f. with_field have f)) h
