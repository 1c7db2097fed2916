-- What many calls at once do, and what is told of many events (this project's own).
use Rattle.std.specs.Prelude.{◌≡◌, ◌≢◌, ℕ, zero, suc, ◌+◌, ◌<◌, ◌≤◌, List, [], ◌∷◌, ◌++◌, length, map, min, take, drop, Option, Some, None}
use Rattle.std.proofs.Common.{inl}
use Rattle.tl_bank_spec.specs.View.{View, shape_of}
use Rattle.tl_trace.specs.NetworkState.{NetworkState, bank_at}
use Rattle.tl_embed.specs.Events.{event_told}
use Rattle.tl_embed.specs.Histories.{AreCalls, Asking}
use Rattle.tl_embed.specs.Told.{number_told, number_wide, only}
use Rattle.tl_embed.specs.declared.answer.Answer.{Answer}
use Rattle.tl_embed.specs.declared.answer.Number.{Number}
use Rattle.tl_embed.specs.declared.cache.Cache.{Cache}
use Rattle.tl_embed.specs.declared.request.Request.{Request}

-- ## Calls

-- these requests, each with its answer
abbrev pub askings : List Request → List Answer → List Asking
askings [] answers = []
askings (r ∷ requests) [] = []
askings (r ∷ requests) (told ∷ answers) = inl (r, told) ∷ askings requests answers

-- the status of an answer, 0 past the last
abbrev pub status_at : List Answer → ℕ → ℕ
status_at [] k = 0
status_at (told ∷ answers) zero = told.status
status_at (told ∷ answers) (suc k) = status_at answers k

-- Requests are called one after another, each answer in its place, until one is not answered with 0, or the requests or the places end:
-- so many were called.
pub record CallsMany (old : Cache) (requests : List Request) (before : List Answer) (new : Cache) (after : List Answer) (made : ℕ) : Type 0 where
  -- these, and no others, as single calls
  pub calls : AreCalls old (askings (take made requests) (take made after)) new
  pub within : made ≤ min (length requests) (length before)
  -- the places behind are as they were
  pub behind : drop made after ≡ drop made before
  -- each but the last was answered with 0
  pub went_on : (k : ℕ) → k + 1 < made → status_at after k ≡ 0
  -- and the last was not, where more were asked for
  pub ended : made < min (length requests) (length before) → (k : ℕ) × (made ≡ k + 1) × (status_at after k ≢ 0)

-- ## Events

-- so many of these events are told in so many places, the others are as they were
pub record TellsEvents (v : View) (from : ℕ) (before after : List Answer) (made : ℕ) : Type 0 where
  pub count : made ≡ min (length (drop from v.log)) (length before)
  pub told : after ≡ map (event_told (shape_of v.geometry)) (take made (drop from v.log)) ++ drop made before

-- The events of a bank's log from a place on are told, as many as have places, and how many they are; or the first is forgotten.
pub record BankReads (v : View) (from : ℕ) (before after : List Answer) (told : Number) : Type 0 where
  pub forgotten : from < v.forgotten → (after ≡ before) × (number_wide told ≡ only 19)
  pub kept : v.forgotten ≤ from → (made : ℕ) × TellsEvents v from before after made × (number_wide told ≡ number_told made)

-- the same of the bank that is asked, if it is there
abbrev pub ReadsAt : Option View → Request → List Answer → List Answer → Number → Type 0
ReadsAt None r before after told = (after ≡ before) × (number_wide told ≡ only 10)
ReadsAt (Some v) r before after told = BankReads v r.serial before after told

-- the same of an open cache; a closed one tells 18 and why it is closed
abbrev pub ReadsOn : Option NetworkState → Cache → Request → List Answer → List Answer → Number → Type 0
ReadsOn None old r before after told = (after ≡ before) × (number_wide told ≡ record (only 18) { serial = old.status })
ReadsOn (Some network) old r before after told = ReadsAt (bank_at network r.bank) r before after told

-- what a cache tells of events, which changes nothing
abbrev pub Reads : Cache → Request → List Answer → Cache → List Answer → Number → Type 0
Reads old r before new after told = (new ≡ old) × ReadsOn old.network old r before after told
