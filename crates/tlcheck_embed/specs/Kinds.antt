-- The messages of a client's link in numbers (TileLink 1.8, section 6).
use Rattle.std.specs.Prelude.{ℕ, ◌==◌, Option, None, if◌then◌else◌}
use Rattle.std.specs.Option.{option_map}
use Rattle.tl_types.specs.Decoding.{grant_at, grow_at, kind_on_b, kind_on_c, kind_on_e, plain_at}
use Rattle.tl_types.specs.declared.kind.Kind.{Kind}
use Rattle.tl_types.specs.declared.kind.Kind.TheVariants as kind

-- the kind on A of a client's link, if any
abbrev pub acquire_at : ℕ → ℕ → Option Kind
acquire_at opcode param = if opcode == 6 then option_map kind.AcquireBlock (grow_at param) else None

-- the kind on D of a client's link, if any
abbrev pub kind_to_client : ℕ → ℕ → Option Kind
kind_to_client opcode param =
    if opcode == 4 then option_map kind.Grant (grant_at param)
    else if opcode == 5 then option_map kind.GrantData (grant_at param)
    else if opcode == 6 then plain_at param kind.ReleaseAck
    else None

-- the kind of message of a client's link with a channel, an opcode and a param, if this profile has one
abbrev pub kind_shown : ℕ → ℕ → ℕ → Option Kind
kind_shown channel opcode param =
    if channel == 0 then acquire_at opcode param
    else if channel == 1 then kind_on_b opcode param
    else if channel == 2 then kind_on_c opcode param
    else if channel == 3 then kind_to_client opcode param
    else if channel == 4 then kind_on_e opcode param
    else None
