-- What one call does to a cache, and what it answers.
use Rattle.std.specs.Prelude.{◌≡◌, ◌≢◌, ◌⊎◌, ℕ, ◌==◌, Bool, true, false, Option, Some, None, if◌then◌else◌}
use Rattle.tl_bank_spec.specs.Views.{IsQuiet}
use Rattle.tl_script_words.specs.declared.step.Step.{Step}
use Rattle.tl_text.specs.declared.answer.Answer.{Answer as Shown}
use Rattle.tl_trace.specs.NetworkSteps.{IsNetworkStep, IsStarvedNetwork}
use Rattle.tl_trace.specs.NetworkState.{NetworkState}
use Rattle.tl_trace.specs.Rests.{IsAway}
use Rattle.tl_embed.specs.Asked.{asked}
use Rattle.tl_embed.specs.Events.{Forgets, Reserves}
use Rattle.tl_embed.specs.Opens.{closed}
use Rattle.tl_embed.specs.Rests.{Rests}
use Rattle.tl_embed.specs.Told.{number_wide, only, step_told, wide}
use Rattle.tl_embed.specs.Views.{Views}
use Rattle.tl_embed.specs.declared.answer.Accessed.{Accessed}
use Rattle.tl_embed.specs.declared.answer.Answer.{Answer}
use Rattle.tl_embed.specs.declared.answer.Number.{Number}
use Rattle.tl_embed.specs.declared.cache.Cache.{Cache}
use Rattle.tl_embed.specs.declared.request.Asked.{Asked}
use Rattle.tl_embed.specs.declared.request.Asked.TheVariants as a
use Rattle.tl_embed.specs.declared.request.Request.{Request}

-- A step is what its bank's call of that name does, and what that showed is told.
pub record IsPlayed (index : ℕ) (step : Step) (old new : NetworkState) (told : Answer) : Type 0 where
  pub shown : Shown
  pub does : IsNetworkStep index step old new shown
  pub tells : told ≡ step_told new step shown

-- There was no memory for it: all is as it was, the log of the bank that it names had no room, and 14 is told.
abbrev pub IsStarved : Step → NetworkState → NetworkState → Answer → Type 0
IsStarved step old new told = IsStarvedNetwork step old new × (told ≡ only 14)

-- What a request that asks for no step does: it changes nothing, and is told what it asks to see.
pub record Others (old : NetworkState) (r : Request) (new : NetworkState) (told : Answer) : Type 0 where
  pub same : new ≡ old
  pub views : Views old r told

-- What a request does to banks.
abbrev pub AsksFor : Asked → NetworkState → Request → NetworkState → Answer → Type 0
AsksFor (a.Step step) old r new told = IsPlayed r.index step old new told ⊎ IsStarved step old new told
AsksFor a.BadArgument old r new told = (new ≡ old) × (told ≡ only 17)
AsksFor a.Reserve old r new told = Reserves r.bank r.serial old new told
AsksFor a.Forget old r new told = Forgets r.bank old new told
AsksFor a.Drain old r new told = Rests IsQuiet old new told
AsksFor a.Flush old r new told = Rests IsAway old new told
AsksFor a.Other old r new told = Others old r new told

-- The cache stays open, and its banks do what is asked.
pub record GoesOn (network : NetworkState) (old : Cache) (r : Request) (new : Cache) (told : Answer) : Type 0 where
  pub next : NetworkState
  pub is : new ≡ record old { network = Some next }
  pub asks : AsksFor (asked r) network r next told

-- What a call does: one of a closed cache tells 18 and why it is closed; the call 0 closes.
abbrev pub CallsOn : Option NetworkState → Cache → Request → Cache → Answer → Type 0
CallsOn None old r new told = (new ≡ old) × (told ≡ record (only 18) { serial = old.status })
CallsOn (Some network) old r new told =
    (r.call ≡ 0 → (new ≡ closed 18) × (told ≡ only 0)) × (r.call ≢ 0 → GoesOn network old r new told)

-- what a call does to a cache
abbrev pub Calls : Cache → Request → Cache → Answer → Type 0
Calls old r new told = CallsOn old.network old r new told

-- What a load or a store does, told in fewer bytes; another call is none of these, and does nothing.
pub record Accesses (old : Cache) (r : Request) (new : Cache) (told : Accessed) : Type 0 where
  pub load : r.call ≡ 1 → Calls old r new (wide told)
  pub store : r.call ≡ 2 → Calls old r new (wide told)
  pub other : r.call ≢ 1 → r.call ≢ 2 → (new ≡ old) × (wide told ≡ only 16)

-- the views that tell a number
abbrev pub tells_number : ℕ → Bool
tells_number call =
    if call == 20 then true
    else if call == 21 then true
    else if call == 22 then true
    else if call == 25 then true
    else if call == 26 then true
    else if call == 27 then true
    else if call == 29 then true
    else if call == 30 then true
    else if call == 36 then true
    else if call == 38 then true
    else if call == 39 then true
    else call == 41

-- What such a view shows, told in fewer bytes; another call is none of these. Nothing changes.
pub record Looks (old : Cache) (r : Request) (new : Cache) (told : Number) : Type 0 where
  pub same : new ≡ old
  pub number : tells_number r.call ≡ true → Calls old r new (number_wide told)
  pub other : tells_number r.call ≡ false → number_wide told ≡ only 16
