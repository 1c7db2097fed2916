-- The words that a text of a script is made of (this project's own format).
use Rattle.std.specs.Prelude.{ℕ, ◌+◌, ◌-◌, ◌*◌, ◌^◌, ◌==◌, ◌&&◌, ◌||◌, nat_lt, Bool, false, not, if◌then◌else◌, List, [], ◌∷◌, length, slice_index, drop, codes, Option, Some, None, map}
use Rattle.std.specs.Borrow.{Bor}
use Rattle.tl_script_words.specs.Reads.{◌>>=◌}
use Rattle.std.specs.Char.{is_ascii_digit, digit_value}
use Rattle.std.specs.Int.{is_in_range}
use Rattle.std.specs.List.{slice_split, list_all, starts_with}
use Rattle.std.specs.Str.Parse.{digits_value}

-- what stands between the spaces: two spaces in a row have an empty word between them
abbrev pub words_of : List ℕ → List (List ℕ)
words_of text = slice_split (λ b. b == 32) text

-- the texts of some words
abbrev pub texts : List (Bor (List ℕ)) → List (List ℕ)
texts words = map (λ w. w.now) words

-- the words of a text that may be absent
abbrev pub words_in : Option (Bor (List ℕ)) → List (List ℕ)
words_in None = []
words_in (Some text) = words_of text.now

-- decimal digits, with no leading 0 unless it is the only one
abbrev pub is_plain : List ℕ → Bool
is_plain text =
    if length text == 0 || (nat_lt 1 (length text) && (slice_index text 0 == 48)) then false
    else list_all is_ascii_digit text

-- NUM: a plain number that is at most 4,294,967,295
abbrev pub number_of : List ℕ → Option ℕ
number_of text = if is_plain text && nat_lt (digits_value 10 text) (2 ^ 32) then Some (digits_value 10 text) else None

-- `0` to `9` and `a` to `f`
abbrev pub is_lower_hex : ℕ → Bool
is_lower_hex c = is_in_range 48 57 c || is_in_range 97 102 c

-- ADDR: `0x`, and one to eight digits
abbrev pub address_of : List ℕ → Option ℕ
address_of text =
    if not (starts_with (λ a b. a == b) text (codes "0x")) || (nat_lt (length text) 3 || nat_lt 10 (length text)) then None
    else if list_all is_lower_hex (drop 2 text) then Some (digits_value 16 (drop 2 text))
    else None

-- LEN: one digit from 1 to 8
abbrev pub len_of : List ℕ → Option ℕ
len_of (c ∷ []) = if is_in_range 49 56 c then Some (c - 48) else None
len_of _ = None

-- the byte that two digits write
abbrev pub byte_of : ℕ → ℕ → Option ℕ
byte_of high low = if is_lower_hex high && is_lower_hex low then Some (digit_value high * 16 + digit_value low) else None

-- the first byte of some bytes
abbrev pub with_first : Option ℕ → Option (List ℕ) → Option (List ℕ)
with_first (Some b) (Some bs) = Some (b ∷ bs)
with_first _ _ = None

-- pairs of digits, a pair for each byte
abbrev pub bytes_of : List ℕ → Option (List ℕ)
bytes_of [] = Some []
bytes_of (high ∷ []) = None
bytes_of (high ∷ low ∷ rest) = with_first (byte_of high low) (bytes_of rest)

-- HEX: the bytes of a block, at most 64
unfoldable pub block_of : List ℕ → Option (List ℕ)
block_of text = do
  bytes ← bytes_of text
  if nat_lt 64 (length bytes) then None else Some bytes

-- HEX: the bytes of an access, one to eight
unfoldable pub access_of : List ℕ → Option (List ℕ)
access_of text = do
  bytes ← bytes_of text
  if length bytes == 0 || nat_lt 8 (length bytes) then None else Some bytes
