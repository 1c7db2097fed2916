-- What is told of the memory's bytes (this project's own).
use Rattle.std.specs.Prelude.{◌≡◌, ℕ, zero, suc, ◌+◌, ◌-◌, List, [], ◌++◌, length, min, take, drop, Option, Some, None}
use Rattle.tl_bank.specs.Contents.{memory_at}
use Rattle.tl_bank_spec.specs.View.{View}
use Rattle.tl_trace.specs.NetworkState.{NetworkState}
use Rattle.tl_embed.specs.Told.{bytes_or_none, number_told, number_wide, only}
use Rattle.tl_embed.specs.Views.{home_of}
use Rattle.tl_embed.specs.declared.answer.Number.{Number}
use Rattle.tl_embed.specs.declared.cache.Cache.{Cache}
use Rattle.tl_embed.specs.declared.request.Request.{Request}

-- the memory's bytes of a block, at the bank where it lies
abbrev pub bytes_in : Option View → ℕ → List ℕ
bytes_in None block = []
bytes_in (Some v) block = bytes_or_none (memory_at v block)

-- of n blocks from one on, by rising number
abbrev pub bytes_from : NetworkState → ℕ → ℕ → List ℕ
bytes_from network first zero = []
bytes_from network first (suc n) = bytes_from network first n ++ bytes_in (home_of network (first + n)) (first + n)

-- The bytes are told, as many as have places, and how many they are; the places behind are as they were.
pub record TellsBytes (bytes before after : List ℕ) (told : Number) : Type 0 where
  pub after_is : after ≡ take (length before) bytes ++ drop (length bytes) before
  pub told_is : number_wide told ≡ number_told (min (length bytes) (length before))

-- those of the blocks from one on, of an open cache; a closed one tells 18 and why it is closed
abbrev pub ImagesOn : Option NetworkState → Cache → Request → List ℕ → List ℕ → Number → Type 0
ImagesOn None old r before after told = (after ≡ before) × (number_wide told ≡ record (only 18) { serial = old.status })
ImagesOn (Some network) old r before after told =
    TellsBytes (bytes_from network r.place (network.geometry.memory_blocks - r.place)) before after told

-- what a cache tells of its memory, which changes nothing
abbrev pub Images : Cache → Request → List ℕ → Cache → List ℕ → Number → Type 0
Images old r before new after told = (new ≡ old) × ImagesOn old.network old r before after told
