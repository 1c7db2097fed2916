-- Words that stand apart by one space each are the words of their line.
use Rattle.std.proofs.Common.{◌≡◌, ℕ, suc, ◌<◌, ◌^◌, ◌/◌, ◌%◌, Bool, true, false, not, eqb, List, [], ◌∷◌, ◌++◌, length, get_or, refl, sym, ap, ◌∙◌, arith, All, append_assoc, decimal}
use Rattle.std.proofs.lemmas.Bool.{and_parts}
use Rattle.std.proofs.lemmas.Bool.Decides.{nat_tests}
use Rattle.std.proofs.lemmas.Fmt.{decimal_is_IsNumeral}
use Rattle.std.proofs.lemmas.List.{append-nil}
use Rattle.std.proofs.lemmas.List.Elements.{All-nil, All-cons}
use Rattle.std.proofs.lemmas.List.Splits.{slice_split_at, slice_split_none}
use Rattle.std.proofs.lemmas.Str.Parse.{digit_from_value}
use Rattle.std.specs.Char.{digit_value}
use Rattle.std.specs.Fmt.{digit_glyph}
use Rattle.std.specs.Int.{w32, to_be_bytes}
use Rattle.std.specs.List.{list_all}
use Rattle.std.specs.Str.Parse.{AllDigits}
use Rattle.tl_script_words.specs.Hex.{address_text, hex_text}
use Rattle.tl_script_words.specs.Words.{words_of}

-- this text has no space
abbrev pub IsWord : List ℕ → Type 0
IsWord [] = Unit {0}
IsWord (c ∷ cs) = (eqb c 32 ≡ false) × IsWord cs

-- none of these texts has
abbrev pub AreWords : List (List ℕ) → Type 0
AreWords [] = Unit {0}
AreWords (w ∷ ws) = IsWord w × AreWords ws

-- words with a space before each
abbrev pub spaced : List (List ℕ) → List ℕ
spaced [] = []
spaced (w ∷ ws) = 32 ∷ (w ++ spaced ws)

-- no element of a word is a space
no_space : (w : List ℕ) → IsWord w → All (λ c. eqb c 32 ≡ false) w
no_space [] h = All-nil (λ c. eqb c 32 ≡ false)
no_space (c ∷ cs) h = All-cons (λ c. eqb c 32 ≡ false) c cs h.0 (no_space cs h.1)

-- a word, and words with a space before each
pub line : (w : List ℕ) (ws : List (List ℕ)) → IsWord w → AreWords ws → words_of (w ++ spaced ws) ≡ w ∷ ws
line w [] h hs = ap words_of (append-nil w) ∙ slice_split_none (λ c. eqb c 32) w (no_space w h)
line w (v ∷ vs) h hs =
    slice_split_at (λ c. eqb c 32) w 32 (v ++ spaced vs) (no_space w h) refl
    ∙ ap (λ (ws : List (List ℕ)). w ∷ ws) (line v vs hs.0 hs.1)

-- words behind words
pub spaced_more : (xs ys : List (List ℕ)) → spaced (xs ++ ys) ≡ spaced xs ++ spaced ys
spaced_more [] ys = refl
spaced_more (x ∷ xs) ys = ap (λ (l : List ℕ). 32 ∷ (x ++ l)) (spaced_more xs ys) ∙ ap (λ (l : List ℕ). 32 ∷ l) (sym (append_assoc x (spaced xs) (spaced ys)))

-- words and words
pub both_words : (xs ys : List (List ℕ)) → AreWords xs → AreWords ys → AreWords (xs ++ ys)
both_words [] ys h k = k
both_words (x ∷ xs) ys h k = (h.0, both_words xs ys h.1 k)

-- a word behind a word
pub both : (v w : List ℕ) → IsWord v → IsWord w → IsWord (v ++ w)
both [] w h k = k
both (c ∷ cs) w h k = (h.0, both cs w h.1 k)

-- ## Numbers and bytes

-- a digit is no space
digit : (c : ℕ) → digit_value c < 10 → eqb c 32 ≡ false
digit c h = let r = digit_from_value c h in grind (arith, nat_tests)

digits : (ds : List ℕ) → AllDigits 10 ds → IsWord ds
digits [] h = tt
digits (d ∷ ds) h = (digit d h.0, digits ds h.1)

-- a number is a word
pub number : (n : ℕ) → n < 2 ^ 32 → IsWord (decimal n)
number n h = digits (decimal n) (decimal_is_IsNumeral n (omega arith)).0.1

-- a digit of base 16 is no space
glyph : (d : ℕ) → d < 16 → eqb (digit_glyph false d) 32 ≡ false
glyph d h = grind (arith, nat_tests)

-- each number is a byte
abbrev pub AreBytes : List ℕ → Type 0
AreBytes [] = Unit {0}
AreBytes (b ∷ bs) = (b < 256) × AreBytes bs

-- bytes are a word
digits_of_bytes : (bytes : List ℕ) → AreBytes bytes → IsWord (hex_text bytes)
digits_of_bytes [] h = tt
digits_of_bytes (b ∷ bs) h = (glyph (b / 16) (omega (arith, h.0)), (glyph (b % 16) (omega arith), digits_of_bytes bs h.1))

-- numbers that are each below 256 are bytes
each_is : (bytes : List ℕ) → All (λ b. b < 256) bytes → AreBytes bytes
each_is [] h = tt
each_is (b ∷ bs) h = (h 0 b (omega arith), each_is bs (λ k d lt. h (suc k) d (omega arith)))

pub hex : (bytes : List ℕ) → All (λ b. b < 256) bytes → IsWord (hex_text bytes)
hex bytes h = digits_of_bytes bytes (each_is bytes h)

-- an address is a word
pub address : (a : ℕ) → IsWord (address_text a)
address a = (refl, (refl, digits_of_bytes (to_be_bytes w32 a) (omega arith, (omega arith, (omega arith, (omega arith, tt))))))

-- a text that a test finds to have no space
pub is_word : (w : List ℕ) → list_all (λ c. not (eqb c 32)) w ≡ true → IsWord w
is_word [] h = tt
is_word (c ∷ cs) h =
    let parts = and_parts (not (eqb c 32)) (list_all (λ c. not (eqb c 32)) cs) h in
    (not_true (eqb c 32) parts.0, is_word cs parts.1)
  where
    not_true : (b : Bool) → not b ≡ true → b ≡ false
    not_true true e = cc
    not_true false e = refl
