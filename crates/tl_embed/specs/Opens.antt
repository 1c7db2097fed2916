-- What a cache is when it is opened.
use Rattle.std.specs.Prelude.{◌≡◌, ◌⊎◌, ◌<◌, ◌≤◌, ◌*◌, ℕ, List, length, Option, Some, None}
use Rattle.tl_map.specs.Numbers.{Numbers as Shape}
use Rattle.tl_map.specs.Refusals.{numbers_of, refusal_number, refusal_of}
use Rattle.tl_map.specs.declared.numbers.GeometryError.{GeometryError}
use Rattle.tl_map.specs.declared.numbers.GeometryNumbers.{GeometryNumbers}
use Rattle.tl_trace.specs.NetworkState.{NetworkState, IsReset}
use Rattle.tl_embed.specs.declared.cache.Cache.{Cache}
use Rattle.tl_embed.specs.declared.cache.Numbers.{Numbers}

-- the numbers as a geometry takes them
abbrev pub as_given : Numbers → GeometryNumbers
as_given n = record {
  version = n.version;
  clients = n.clients;
  banks = n.banks;
  block_bytes = n.block_bytes;
  sets = n.sets;
  ways = n.ways;
  registers = n.registers;
  copies = n.copies;
  memory_blocks = n.memory_blocks;
}

-- a cache that is closed, and why
abbrev pub closed : ℕ → Cache
closed status = record { status = status; network = None }

-- a cache that is open
abbrev pub open_with : NetworkState → Cache
open_with network = record { status = 0; network = Some network }

-- It has all banks of a geometry, each at reset over the image.
pub record IsFresh (g : Shape) (image : List ℕ) (made : Cache) : Type 0 where
  pub network : NetworkState
  pub is : made ≡ open_with network
  pub reset : IsReset g image network

-- Over a geometry: an image that is longer than the memory closes it with 10; over one that fits it is fresh, or there was no memory.
pub record OpensOver (g : Shape) (image : List ℕ) (made : Cache) : Type 0 where
  pub long : g.memory_blocks * g.block_bytes < length image → made ≡ closed 10
  pub fits : length image ≤ g.memory_blocks * g.block_bytes → IsFresh g image made ⊎ (made ≡ closed 14)

-- The first of the numbers that is not lawful closes it; where there is none, they are those of a geometry.
abbrev pub OpensBy : Option GeometryError → GeometryNumbers → List ℕ → Cache → Type 0
OpensBy (Some error) given image made = made ≡ closed (refusal_number error)
OpensBy None given image made = (g : Shape) × (numbers_of g ≡ given) × OpensOver g image made

-- what a cache is that is opened with these numbers and this image
abbrev pub Opens : Numbers → List ℕ → Cache → Type 0
Opens numbers image made = OpensBy (refusal_of (as_given numbers)) (as_given numbers) image made
