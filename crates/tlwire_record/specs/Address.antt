-- Addresses of up to 64 bits (this project's own format; the addresses are TileLink's, 1.8, section 3).
use Rattle.std.specs.Prelude.{ℕ, ◌==◌, ◌||◌, nat_lt, not, List, length, drop, codes, Option, Some, None, Result, ok_or, if◌then◌else◌}
use Rattle.std.specs.List.{list_all, starts_with}
use Rattle.std.specs.Str.Parse.{digits_value}
use Rattle.tl_script_words.specs.Words.{is_lower_hex}
use Rattle.tlcheck_record.specs.declared.cause.Cause.{Cause}
use Rattle.tlcheck_record.specs.declared.cause.Cause.TheVariants as cause

-- WIDE: `0x`, and one to sixteen digits
abbrev pub wide_address_of : List ℕ → Option ℕ
wide_address_of text =
    if not (starts_with (λ a b. a == b) text (codes "0x")) || (nat_lt (length text) 3 || nat_lt 18 (length text))
    then None
    else if list_all is_lower_hex (drop 2 text) then Some (digits_value 16 (drop 2 text))
    else None

-- such an address in its place
abbrev pub wide_address_in : List ℕ → Result ℕ Cause
wide_address_in text = ok_or (wide_address_of text) cause.Number
