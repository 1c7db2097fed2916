-- A text's first word, and the commands that have too few words or too many.
use Rattle.std.proofs.Common.{◌≡◌, ℕ, Bool, true, false, cond, not, bytes_eq, codes, ◌+◌, ◌<◌, ◌≤◌, List, [], ◌∷◌, length, Option, Some, None, inl, inr, eqb, refl, sym, ◌∙◌, arith}
use Rattle.std.proofs.Math.Bool.{and-false}
use Rattle.std.proofs.lemmas.Bool.{cases_lt, eqb-true}
use Rattle.std.proofs.lemmas.List.Splits.{slice_split_first, slice_split_none, length-slice_split}
use Rattle.std.proofs.lemmas.List.Sums.{fails_before_first, prefix_len-le-length}
use Rattle.std.specs.List.{before_first, after_first, position_or_len}
use Rattle.tl_script_words.specs.Command.{load_of, store_of, drop_of, command_in}
use Rattle.tl_script_words.specs.Reads.{◌>>=◌}
use Rattle.tl_script_words.specs.Words.{words_of, is_lower_hex, address_of, len_of, byte_of, with_first, bytes_of, access_of}
use Rattle.tl_script_words.specs.declared.command.Command.TheVariants.{Load, Store}

-- a text with a space: what stands before the first, and the words behind it
pub first_word : (text : List ℕ) → position_or_len (λ b. eqb b 32) text < length text
    → words_of text ≡ before_first (λ b. eqb b 32) text ∷ words_of (after_first (λ b. eqb b 32) text)
first_word text h = slice_split_first (λ b. eqb b 32) text 0 h

-- a text with no space is one word
pub only_word : (text : List ℕ) → position_or_len (λ b. eqb b 32) text ≡ length text → words_of text ≡ text ∷ []
only_word text h = slice_split_none (λ b. eqb b 32) text (λ k d lt. fails_before_first (λ b. eqb b 32) text k d (omega (arith, h)))

-- a text has a word
word_in : (text : List ℕ) → 0 < length (words_of text)
word_in text = omega (arith, length-slice_split (λ b. eqb b 32) text)

-- a place that is not before the end is the end
pub all_of : (text : List ℕ) → length text ≤ position_or_len (λ b. eqb b 32) text → position_or_len (λ b. eqb b 32) text ≡ length text
all_of text h = omega (arith, h, prefix_len-le-length (λ b. not (eqb b 32)) text)

-- three tests that choose the same
same : {X : Type 0} (a b c : Bool) (x : X) → cond a x (cond b x (cond c x x)) ≡ x
same true b c x = refl
same false true c x = refl
same false false true x = refl
same false false false x = refl

-- one word is no command
pub no_arguments : (verb : List ℕ) → command_in (verb ∷ []) ≡ None
unfolding command_in load_of store_of drop_of
no_arguments verb = same (bytes_eq verb (codes "load")) (bytes_eq verb (codes "store")) (bytes_eq verb (codes "drop")) None

-- more than one word are no drop's arguments
not_one : (first : List ℕ) (words : List (List ℕ)) → 0 < length words → drop_of (first ∷ words) ≡ None
unfolding drop_of
not_one first [] h = absurd (omega (arith, h))
not_one first (w ∷ ws) h = refl

-- one word before a text is no drop's arguments
pub no_drop : (first text : List ℕ) → drop_of (first ∷ words_of text) ≡ None
no_drop first text = not_one first (words_of text) (word_in text)

-- more than two words are no load's arguments
no_load : (address second : List ℕ) (words : List (List ℕ)) → 0 < length words → load_of (address ∷ second ∷ words) ≡ None
unfolding load_of
no_load address second [] h = absurd (omega (arith, h))
no_load address second (w ∷ ws) h = refl

-- nor a store's
no_store : (address second : List ℕ) (words : List (List ℕ)) → 0 < length words → store_of (address ∷ second ∷ words) ≡ None
unfolding store_of
no_store address second [] h = absurd (omega (arith, h))
no_store address second (w ∷ ws) h = refl

-- a space is no digit of a byte
no_digit : (c : ℕ) → eqb c 32 ≡ true → is_lower_hex c ≡ false
no_digit c e = rw (eqb-true c 32 e) refl

-- so a pair with a space in it is no byte
no_high : (high low : ℕ) → eqb high 32 ≡ true → byte_of high low ≡ None
no_high high low e = rw (no_digit high e) refl

no_low : (high low : ℕ) → eqb low 32 ≡ true → byte_of high low ≡ None
no_low high low e = rw (no_digit low e, and-false (is_lower_hex high)) refl

-- no bytes behind the first are no bytes
none_behind : (b : Option ℕ) (read : Option (List ℕ)) → read ≡ None → with_first b read ≡ None
none_behind None read e = refl
none_behind (Some b) read e = rw e refl

-- a text with a space writes no bytes
no_bytes : (text : List ℕ) → position_or_len (λ b. eqb b 32) text < length text → bytes_of text ≡ None
no_bytes [] h = absurd (omega (arith, h))
no_bytes (c ∷ []) h = refl
no_bytes (high ∷ low ∷ rest) h = pairs (eqb high 32) (eqb low 32) refl refl h (λ lt. no_bytes rest lt)
  where
    pairs : (a b : Bool) → eqb high 32 ≡ a → eqb low 32 ≡ b → cond (not a) (1 + cond (not b) (1 + position_or_len (λ b. eqb b 32) rest) 0) 0 < length (high ∷ low ∷ rest)
        → (position_or_len (λ b. eqb b 32) rest < length rest → bytes_of rest ≡ None) → bytes_of (high ∷ low ∷ rest) ≡ None
    pairs true b ea eb h next = rw (no_high high low ea) refl
    pairs false true ea eb h next = rw (no_low high low eb) refl
    pairs false false ea eb h next = none_behind (byte_of high low) (bytes_of rest) (next (omega (arith, h)))

-- nor a length
no_len : (text : List ℕ) → position_or_len (λ b. eqb b 32) text < length text → len_of text ≡ None
no_len [] h = absurd (omega (arith, h))
no_len (c ∷ []) h = one (eqb c 32) refl h
  where
    one : (b : Bool) → eqb c 32 ≡ b → cond (not b) 1 0 < 1 → len_of (c ∷ []) ≡ None
    one true e h = rw (eqb-true c 32 e) refl
    one false e h = absurd (omega (arith, h))
no_len (c ∷ d ∷ rest) h = refl

-- with nothing to follow, nothing is read
nothing : {A B : Type 0} (x : Option A) → let none : Option B = None in (x >>= λ _. none) ≡ none
nothing None = refl
nothing (Some x) = refl

-- a load's arguments are an address and a length, where the length is all that stands behind the address
pub load_words : (address text : List ℕ) → load_of (address ∷ words_of text) ≡ (address_of address >>= λ a. len_of text >>= λ n. Some (Load a n))
unfolding load_of
load_words address text = elim (cases_lt (position_or_len (λ b. eqb b 32) text) (length text)) [
  | inl lt ↦ rw (first_word text lt, no_len text lt) (no_load address (before_first (λ b. eqb b 32) text) (words_of (after_first (λ b. eqb b 32) text)) (word_in (after_first (λ b. eqb b 32) text)) ∙ sym (nothing (address_of address)))
  | inr ge ↦ rw (only_word text (all_of text ge)) refl
]

-- a store's arguments are an address and bytes, where the bytes are all that stands behind the address
pub store_words : (address text : List ℕ) → store_of (address ∷ words_of text) ≡ (address_of address >>= λ a. access_of text >>= λ bs. Some (Store a bs))
unfolding store_of access_of
store_words address text = elim (cases_lt (position_or_len (λ b. eqb b 32) text) (length text)) [
  | inl lt ↦ rw (first_word text lt, no_bytes text lt) (no_store address (before_first (λ b. eqb b 32) text) (words_of (after_first (λ b. eqb b 32) text)) (word_in (after_first (λ b. eqb b 32) text)) ∙ sym (nothing (address_of address)))
  | inr ge ↦ rw (only_word text (all_of text ge)) refl
]
