-- What passes between home and the memory (TL-UH: TileLink 1.8, sections 7 and 8).
use Rattle.std.specs.Prelude.{◌≡◌, ◌⊎◌, ℕ, List}
use Rattle.tl_protocol.specs.declared.home.Outward.{Outward}
use Rattle.tl_protocol.specs.declared.home.Outward.TheVariants.{Get, Data, Put}

-- a request that the memory may answer
abbrev pub IsRequest : Outward → Type 0
IsRequest out = (out ≡ Get) ⊎ ((bytes : List ℕ) × (out ≡ Put bytes))

-- the bytes that home asked for
abbrev pub IsData : Outward → Type 0
IsData out = (bytes : List ℕ) × (out ≡ Data bytes)
