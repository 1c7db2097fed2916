-- What a run keeps of the copies of each block, and of their bytes (this project's own theorems).
use Rattle.std.specs.Prelude.{◌≡◌, ℕ, ◌+◌, ◌-◌, ◌<◌, ◌&&◌, List, [], ◌∷◌, ◌++◌, length, slice_index, if◌then◌else◌, nat_lt, nat_le}
use Rattle.tl_protocol.specs.declared.event.Access.{Access}
use Rattle.tl_protocol.specs.declared.event.Event.{Event}
use Rattle.tl_protocol.specs.declared.event.Event.TheVariants.{Load, Store}

-- the byte at an address after a store, before which it is x
abbrev pub byte_after : Event → ℕ → ℕ → ℕ
byte_after (Store access) address x =
    if nat_le access.address address && nat_lt address (access.address + length access.bytes)
    then slice_index access.bytes (address - access.address) else x
byte_after e address x = x

-- the last byte stored at an address, else x
abbrev pub last_from : ℕ → List Event → ℕ → ℕ
last_from x [] address = x
last_from x (e ∷ es) address = last_from (byte_after e address x) es address

-- the last byte stored at an address, else the one of the image
abbrev pub last : List ℕ → List Event → ℕ → ℕ
last image events address = last_from (slice_index image address) events address

-- the bytes are the last stored ones, from an address on
abbrev pub AreLast : List ℕ → List Event → ℕ → List ℕ → Type 0
AreLast image events address bytes =
    (i : ℕ) → i < length bytes → slice_index bytes i ≡ last image events (address + i)

-- each load got the bytes last stored before it
abbrev pub LoadsLast : List ℕ → List Event → Type 0
LoadsLast image events =
    (before : List Event) (access : Access) (rest : List Event)
    → events ≡ before ++ Load access ∷ rest → AreLast image before access.address access.bytes
