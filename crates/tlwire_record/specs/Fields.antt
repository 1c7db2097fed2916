-- The fields of a message: words KEY=VALUE (this project's own format; the names are TileLink's).
use Rattle.std.specs.Prelude.{ℕ, ◌==◌, List, [], ◌∷◌, codes, bytes_eq, Some, None, Result, Ok, Err, if◌then◌else◌}
use Rattle.std.specs.List.{slice_split}
use Rattle.std.specs.Option.{is_some}
use Rattle.tlcheck_record.specs.Cause.{◌>>=◌}
use Rattle.tlcheck_record.specs.Words.{block_bytes_in, number_in}
use Rattle.tlwire_record.specs.Address.{wide_address_in}
use Rattle.tlcheck_record.specs.declared.cause.Cause.{Cause}
use Rattle.tlcheck_record.specs.declared.cause.Cause.TheVariants as cause
use Rattle.tlwire_record.specs.declared.fields.Field.{Field}
use Rattle.tlwire_record.specs.declared.fields.Field.TheVariants as field
use Rattle.tlwire_record.specs.declared.fields.Fields.{Fields}

-- what stands between the `=` of a word
abbrev pub pair_of : List ℕ → List (List ℕ)
pair_of word = slice_split (λ b. b == 61) word

-- the field of a key and a value
unfoldable pub field_by : List ℕ → List ℕ → Result Field Cause
field_by key value =
    if bytes_eq key (codes "param") then number_in value >>= (λ n. Ok (field.Param n))
    else if bytes_eq key (codes "size") then number_in value >>= (λ n. Ok (field.Size n))
    else if bytes_eq key (codes "source") then number_in value >>= (λ n. Ok (field.Source n))
    else if bytes_eq key (codes "sink") then number_in value >>= (λ n. Ok (field.Sink n))
    else if bytes_eq key (codes "address") then wide_address_in value >>= (λ n. Ok (field.Address n))
    else if bytes_eq key (codes "data") then block_bytes_in value >>= (λ bytes. Ok (field.Data bytes))
    else if bytes_eq key (codes "denied") then number_in value >>= (λ n. Ok (field.Denied n))
    else if bytes_eq key (codes "corrupt") then number_in value >>= (λ n. Ok (field.Corrupt n))
    else if bytes_eq key (codes "mask") then number_in value >>= (λ n. Ok (field.Mask n))
    else Err cause.Key

-- `KEY=VALUE`, in its two parts
unfoldable pub field_in : List (List ℕ) → Result Field Cause
field_in (key ∷ value ∷ []) = field_by key value
field_in _ = Err cause.Key

-- the field that a word writes
abbrev pub field_of : List ℕ → Result Field Cause
field_of word = field_in (pair_of word)

-- no fields
abbrev pub no_fields : Fields
no_fields = record {
  param = None;
  size = None;
  source = None;
  sink = None;
  address = None;
  bytes = None;
  denied = None;
  corrupt = None;
  mask = None;
}

-- one field more, unless it is there
abbrev pub with_field : Fields → Field → Result Fields Cause
with_field f (field.Param n) = if is_some f.param then Err cause.Twice else Ok (record f { param = Some n })
with_field f (field.Size n) = if is_some f.size then Err cause.Twice else Ok (record f { size = Some n })
with_field f (field.Source n) = if is_some f.source then Err cause.Twice else Ok (record f { source = Some n })
with_field f (field.Sink n) = if is_some f.sink then Err cause.Twice else Ok (record f { sink = Some n })
with_field f (field.Address n) = if is_some f.address then Err cause.Twice else Ok (record f { address = Some n })
with_field f (field.Data bytes) = if is_some f.bytes then Err cause.Twice else Ok (record f { bytes = Some bytes })
with_field f (field.Denied n) = if is_some f.denied then Err cause.Twice else Ok (record f { denied = Some n })
with_field f (field.Corrupt n) = if is_some f.corrupt then Err cause.Twice else Ok (record f { corrupt = Some n })
with_field f (field.Mask n) = if is_some f.mask then Err cause.Twice else Ok (record f { mask = Some n })

-- one field more, of a key and a value
abbrev pub with_pair : Fields → List ℕ → List ℕ → Result Fields Cause
with_pair have key value = field_by key value >>= (λ f. with_field have f)

-- one field more, that a word writes
abbrev pub with_word : Fields → List ℕ → Result Fields Cause
with_word have word = field_of word >>= (λ f. with_field have f)

-- the fields that some words write, beside those that are there
unfoldable pub fields_in : Fields → List (List ℕ) → Result Fields Cause
fields_in have [] = Ok have
fields_in have (word ∷ rest) = field_of word >>= (λ f. with_field have f >>= (λ next. fields_in next rest))
