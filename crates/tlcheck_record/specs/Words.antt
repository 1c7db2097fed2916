-- What both formats of records have: lines as texts, numbers, addresses, bytes, the image (this project's own formats).
use Rattle.std.specs.Prelude.{ℕ, ◌-◌, ◌*◌, ◌==◌, ◌&&◌, ◌||◌, nat_le, nat_lt, Bool, List, [], ◌∷◌, length, slice_index, Result, Ok, Err, ok_or, if◌then◌else◌}
use Rattle.std.specs.Str.{is_utf8}
use Rattle.tl_types.specs.declared.limits.TheConstants.{BLOCK_BYTES}
use Rattle.tl_types.specs.declared.permission.Grow.{Grow}
use Rattle.tl_types.specs.declared.permission.Prune.{Prune}
use Rattle.tl_protocol.specs.declared.shape.Shape.{Shape}
use Rattle.tl_script_words.specs.Ticket.{grow_of, prune_of}
use Rattle.tl_script_words.specs.Words.{access_of, address_of, bytes_of, number_of}
use Rattle.tlcheck_record.specs.Cause.{◌>>=◌}
use Rattle.tlcheck_record.specs.declared.cause.Cause.{Cause}
use Rattle.tlcheck_record.specs.declared.cause.Cause.TheVariants as cause

-- ## A line as a text

-- a line that says nothing: it is empty, or begins with `#`
abbrev pub is_blank : List ℕ → Bool
is_blank line = (length line == 0) || (slice_index line 0 == 35)

-- a line that begins with a byte order mark: EF BB BF
abbrev pub has_mark : List ℕ → Bool
has_mark line = nat_le 3 (length line) && (slice_index line 0 == 239) && (slice_index line 1 == 187) && (slice_index line 2 == 191)

-- a line that has a carriage return before its line feed
abbrev pub has_return : List ℕ → Bool
has_return line = nat_le 1 (length line) && (slice_index line (length line - 1) == 13)

-- the text of a line without its line feed
abbrev pub text_in : List ℕ → Result (List ℕ) Cause
text_in line =
    if has_mark line then Err cause.Mark
    else if has_return line then Err cause.LineEnd
    else if is_utf8 line then Ok line
    else Err cause.Text

-- ## Words

-- NUM
abbrev pub number_in : List ℕ → Result ℕ Cause
number_in text = ok_or (number_of text) cause.Number

-- ADDR
abbrev pub address_in : List ℕ → Result ℕ Cause
address_in text = ok_or (address_of text) cause.Number

-- HEX of an access: 1 to 8 bytes
abbrev pub access_bytes_in : List ℕ → Result (List ℕ) Cause
access_bytes_in text = ok_or (access_of text) cause.Bytes

-- HEX: the bytes of a block, at most `BLOCK_BYTES`
unfoldable pub block_bytes_in : List ℕ → Result (List ℕ) Cause
block_bytes_in text =
    ok_or (bytes_of text) cause.Bytes >>= (λ bytes. if nat_lt BLOCK_BYTES (length bytes) then Err cause.Bytes else Ok bytes)

-- GROW
abbrev pub grow_in : List ℕ → Result Grow Cause
grow_in text = ok_or (grow_of text) cause.Param

-- PRUNE
abbrev pub prune_in : List ℕ → Result Prune Cause
prune_in text = ok_or (prune_of text) cause.Param

-- ## The image

-- the image has bytes, and not more than the memory
abbrev pub fitted : Shape → List ℕ → Result (List ℕ) Cause
fitted shape image =
    if length image == 0 then Err cause.NoImage
    else if nat_lt (shape.block_bytes * shape.blocks) (length image) then Err cause.LongImage
    else Ok image

-- `HEX`, behind the word `image`: the bytes of the memory at reset, 0 past their end
unfoldable pub image_in : Shape → List (List ℕ) → Result (List ℕ) Cause
image_in shape [] = Err cause.NoImage
image_in shape (bytes ∷ []) = ok_or (bytes_of bytes) cause.Bytes >>= (λ image. fitted shape image)
image_in shape _ = Err cause.MoreWords
