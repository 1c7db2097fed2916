-- Where a message or an access is, and whether its size and its bytes are a block's.
use Rattle.std.specs.Prelude.{ℕ, ◌+◌, ◌-◌, ◌/◌, ◌%◌, ◌==◌, ◌&&◌, ◌||◌, nat_lt, Bool, true, false, not, List, length, Option, Some, None, Result, Ok, Err, if◌then◌else◌}
use Rattle.std.specs.Option.{is_some}
use Rattle.tl_types.specs.Bodies.{has_data}
use Rattle.tl_types.specs.declared.channel.Channel.{Channel}
use Rattle.tl_types.specs.declared.channel.Channel.TheVariants.{A, B, C, D, E}
use Rattle.tl_types.specs.declared.kind.Kind.{Kind}
use Rattle.tl_protocol.specs.declared.shape.Shape.{Shape}
use Rattle.tlcheck_record.specs.declared.cause.Cause.{Cause}
use Rattle.tlcheck_record.specs.declared.cause.Cause.TheVariants as cause
use Rattle.tlwire_record.specs.declared.fields.Fields.{Fields}

-- the block whose first byte lies at an address
abbrev pub block_at : Shape → ℕ → ℕ → Result ℕ Cause
block_at shape base address =
    if nat_lt address base then Err cause.Outside
    else if not (nat_lt ((address - base) / shape.block_bytes) shape.blocks) then Err cause.Outside
    else if not ((address - base) % shape.block_bytes == 0) then Err cause.Unaligned
    else Ok ((address - base) / shape.block_bytes)

-- how far behind the memory's first byte an access begins, where it lies in one block of the memory
abbrev pub offset_of : Shape → ℕ → ℕ → List ℕ → Result ℕ Cause
offset_of shape base address bytes =
    if nat_lt address base then Err cause.Outside
    else if not (nat_lt ((address - base) / shape.block_bytes) shape.blocks) then Err cause.Outside
    else if nat_lt shape.block_bytes ((address - base) % shape.block_bytes + length bytes) then Err cause.Access
    else Ok (address - base)

-- a size, where it stands, is the base-2 logarithm of a block's bytes (TileLink 1.8, section 4)
abbrev pub is_size : Shape → Option ℕ → Bool
is_size shape None = true
is_size shape (Some n) =
    if n == 3 then shape.block_bytes == 8
    else if n == 4 then shape.block_bytes == 16
    else if n == 5 then shape.block_bytes == 32
    else if n == 6 then shape.block_bytes == 64
    else false

-- a message has a block's bytes where its kind has bytes, and else none
abbrev pub has_its_data : Shape → Kind → Option (List ℕ) → Bool
has_its_data shape kind None = not (has_data kind)
has_its_data shape kind (Some bytes) = has_data kind && (length bytes == shape.block_bytes)

-- a field stands that is not 0
abbrev pub is_set : Option ℕ → Bool
is_set None = false
is_set (Some n) = not (n == 0)

-- a field stands that E has not: it has a sink alone
abbrev pub has_more_than_a_sink : Fields → Bool
has_more_than_a_sink f =
    is_some f.address || is_some f.param || is_some f.size || is_some f.source || is_some f.denied || is_some f.corrupt
    || is_some f.mask

-- a field stands that the channel has not (TileLink 1.8, section 3: the signals of each channel)
abbrev pub has_other_fields : Channel → Fields → Bool
has_other_fields A f = is_some f.sink || is_some f.denied
has_other_fields B f = is_some f.sink || is_some f.denied
has_other_fields C f = is_some f.sink || is_some f.denied || is_some f.mask
has_other_fields D f = is_some f.address || is_some f.mask
has_other_fields E f = has_more_than_a_sink f
