-- A ticket is read back as it was printed.
use Rattle.std.proofs.Common.{◌≡◌, ℕ, ◌<◌, ◌^◌, Bool, true, false, nat_lt, eqb, ◌&&◌, List, [], ◌∷◌, ◌++◌, length, get_or, decimal, Some, refl, sym, ◌∙◌, inl, inr, arith, All, append_assoc}
use Rattle.std.proofs.lemmas.Bool.{and_from, cases_lt, lt-ltb, false≢true}
use Rattle.std.proofs.lemmas.Bool.Decides.{nat_tests}
use Rattle.std.proofs.lemmas.Fmt.{decimal_digit, decimal_is_IsNumeral, first_decimal}
use Rattle.std.proofs.lemmas.List.Folds.{list_all_at}
use Rattle.std.proofs.lemmas.List.Splits.{slice_split_at, slice_split_none}
use Rattle.std.proofs.lemmas.Str.Parse.{digit_from_value}
use Rattle.std.specs.Char.{is_ascii_digit, digit_value}
use Rattle.std.specs.List.{list_all}
use Rattle.std.specs.Str.Parse.{AllDigits}
use Rattle.tl_types.specs.Channel.{letter_of}
use Rattle.tl_types.specs.Ticket.{ticket_text}
use Rattle.tl_types.specs.declared.channel.Channel.{Channel}
use Rattle.tl_types.specs.declared.channel.Channel.TheVariants.{A, B, C, D, E}
use Rattle.tl_types.specs.declared.ticket.Ticket.{Ticket}
use Rattle.tl_script_words.specs.Ticket.{channel_of, fields_of, ticket_in, ticket_of}
use Rattle.tl_script_words.specs.Words.{is_plain, number_of}

-- ## Numbers

-- a character whose value is below ten is a decimal digit
digit : (c : ℕ) → digit_value c < 10 → is_ascii_digit c ≡ true
digit c h = let r = digit_from_value c h in grind (arith, nat_tests)

-- digits of base ten are decimal digits
all_digits : (ds : List ℕ) → AllDigits 10 ds → list_all is_ascii_digit ds ≡ true
all_digits [] h = refl
all_digits (d ∷ ds) h = and_from (is_ascii_digit d) (list_all is_ascii_digit ds) (digit d h.0) (all_digits ds h.1)

-- a number is printed with no leading 0 unless it is the only digit
no_leading_zero : (n : ℕ) → n < 2 ^ 32 → (nat_lt 1 (length (decimal n)) && eqb (get_or (decimal n) 0 0) 48) ≡ false
no_leading_zero n h = elim (cases_lt 0 n) [
  | inl some ↦ let first = first_decimal n some (omega arith) in grind (arith, nat_tests)
  | inr none ↦ let zero : n ≡ 0 = omega arith in rw (zero, decimal_digit 0 (omega arith)) refl
]

-- a number is printed plain
plain : (n : ℕ) → n < 2 ^ 32 → is_plain (decimal n) ≡ true
plain n h =
    let numeral = decimal_is_IsNumeral n (omega arith) in
    let some : eqb (length (decimal n)) 0 ≡ false = let low = numeral.0.0 in grind (arith, nat_tests) in
    rw (some, no_leading_zero n h) (all_digits (decimal n) numeral.0.1)

-- a number is read back as it was printed
pub number_read : (n : ℕ) → n < 2 ^ 32 → number_of (decimal n) ≡ Some n
number_read n h =
    let numeral = decimal_is_IsNumeral n (omega arith) in
    rw (plain n h, numeral.1, lt-ltb n (2 ^ 32) h) refl

-- ## Fields

-- a decimal digit is not a dot
digit_or_dot : (c : ℕ) (b : Bool) → is_ascii_digit c ≡ b → (b ≡ false → ⊥) → eqb c 46 ≡ false
digit_or_dot c true e h = grind (arith, nat_tests)
digit_or_dot c false e h = absurd (h refl)

-- no dot is among decimal digits
not_dot : (ds : List ℕ) → list_all is_ascii_digit ds ≡ true → All (λ b. eqb b 46 ≡ false) ds
not_dot ds h = λ k d lt. digit_or_dot (get_or ds k d) (is_ascii_digit (get_or ds k d)) refl (λ no. false≢true (sym (list_all_at is_ascii_digit ds k d lt no) ∙ h))

-- a number before a dot is a field
number_field : (n : ℕ) (rest : List ℕ) → n < 2 ^ 32 → fields_of (decimal n ++ 46 ∷ rest) ≡ decimal n ∷ fields_of rest
number_field n rest h = slice_split_at (λ b. eqb b 46) (decimal n) 46 rest (not_dot (decimal n) (all_digits (decimal n) (decimal_is_IsNumeral n (omega arith)).0.1)) refl

-- a number with no dot behind it is the last field
last_field : (n : ℕ) → n < 2 ^ 32 → fields_of (decimal n) ≡ decimal n ∷ []
last_field n h = slice_split_none (λ b. eqb b 46) (decimal n) (not_dot (decimal n) (all_digits (decimal n) (decimal_is_IsNumeral n (omega arith)).0.1))

-- a channel's letter before a dot is a field
letter_field : (c : Channel) (rest : List ℕ) → fields_of (letter_of c ++ 46 ∷ rest) ≡ letter_of c ∷ fields_of rest
letter_field A rest = refl
letter_field B rest = refl
letter_field C rest = refl
letter_field D rest = refl
letter_field E rest = refl

-- a channel's letter is read back as it was printed
letter_read : (c : Channel) → channel_of (letter_of c) ≡ Some c
unfolding channel_of
letter_read A = refl
letter_read B = refl
letter_read C = refl
letter_read D = refl
letter_read E = refl

-- a ticket is printed as four fields: its bank, its client, its channel's letter and its serial
fields : (t : Ticket) → t.bank < 2 ^ 32 → t.client < 2 ^ 32 → t.serial < 2 ^ 32 → fields_of (ticket_text t) ≡ decimal t.bank ∷ decimal t.client ∷ letter_of t.channel ∷ decimal t.serial ∷ []
fields t bank client serial =
    let whole : ticket_text t ≡ decimal t.bank ++ 46 ∷ (decimal t.client ++ 46 ∷ (letter_of t.channel ++ 46 ∷ decimal t.serial)) = simp append_assoc in
    rw (whole, number_field t.bank _ bank, number_field t.client _ client, letter_field t.channel (decimal t.serial), last_field t.serial serial) refl

-- a ticket is read back as it was printed
pub ticket_read : (t : Ticket) → t.bank < 2 ^ 32 → t.client < 2 ^ 32 → t.serial < 2 ^ 32 → ticket_of (ticket_text t) ≡ Some t
unfolding ticket_in
ticket_read t bank client serial =
    rw (fields t bank client serial, number_read t.bank bank, number_read t.client client, letter_read t.channel, number_read t.serial serial) refl
