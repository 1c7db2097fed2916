-- What holds of a cache after any sequence of calls.
use Rattle.std.specs.Prelude.{◌≡◌, ◌⊎◌, ℕ, ◌<◌, List, [], ◌∷◌, ◌++◌, Some}
use Rattle.std.proofs.Common.{inl, inr}
use Rattle.tl_map.specs.Numbers.{Numbers as Shape}
use Rattle.tl_map.specs.Refusals.{numbers_of}
use Rattle.tl_protocol.specs.declared.event.Event.{Event}
use Rattle.tl_protocol_lanes.specs.Lawful.{Lawful}
use Rattle.tl_bank_spec.specs.Coherent.{IsCoherent}
use Rattle.tl_bank_spec.specs.View.{View, shape_of}
use Rattle.tl_trace.specs.NetworkState.{NetworkState, bank_at}
use Rattle.tl_embed.specs.Calls.{Calls}
use Rattle.tl_embed.specs.Opens.{Opens, as_given}
use Rattle.tl_embed.specs.Saw.{Saws}
use Rattle.tl_embed.specs.declared.answer.Answer.{Answer}
use Rattle.tl_embed.specs.declared.cache.Cache.{Cache}
use Rattle.tl_embed.specs.declared.cache.Numbers.{Numbers}
use Rattle.tl_embed.specs.declared.request.Request.{Request}
use Rattle.tl_embed.specs.declared.seen.Seen.{Seen}

-- what a cache is asked: a request, or what a message that was seen asks; with its answer
abbrev pub Asking : Type 0
Asking = (Request × Answer) ⊎ (Seen × Answer)

-- a cache is asked this, and answers so
abbrev pub IsAsked : Cache → Asking → Cache → Type 0
IsAsked old (inl call) new = Calls old call.0 new call.1
IsAsked old (inr sight) new = Saws old sight.0 new sight.1

-- a cache is asked these, one after another
abbrev pub AreCalls : Cache → List Asking → Cache → Type 0
AreCalls old [] new = new ≡ old
AreCalls old (asking ∷ more) new = (next : Cache) × IsAsked old asking next × AreCalls next more new

-- A bank later: it is the same bank over the same memory, and its log begins with that of before.
pub record IsLater (old new : View) : Type 0 where
  pub geometry : new.geometry ≡ old.geometry
  pub number : new.number ≡ old.number
  pub image : new.image ≡ old.image
  pub since : List Event
  pub log : new.log ≡ old.log ++ since

-- A bank's log is a run of the protocol from reset that takes the messages of each channel in order, and what the bank holds, which
-- is what the log leaves, is coherent.
pub record IsRunning (v : View) : Type 0 where
  pub lawful : Lawful (shape_of v.geometry) v.image v.log
  pub coherent : IsCoherent v

-- The same of the bank with a number, of a geometry over an image.
pub record HoldsRun (g : Shape) (image : List ℕ) (number : ℕ) (v : View) : Type 0 where
  pub geometry : v.geometry ≡ g
  pub is_number : v.number ≡ number
  pub is_image : v.image ≡ image
  pub running : IsRunning v

-- A bank of two open caches, of which one is later: it holds a run, and is later there.
pub record RunsOn (g : Shape) (image : List ℕ) (number : ℕ) (before now : NetworkState) : Type 0 where
  pub old : View
  pub new : View
  pub was : bank_at before number ≡ Some old
  pub is : bank_at now number ≡ Some new
  pub holds : HoldsRun g image number new
  pub later : IsLater old new

-- Whatever is asked of a cache after it was opened, and whatever after that, as long as it is open: the numbers were those of a
-- geometry, and each bank of it holds a run over the image, which goes on from the one that it held before.
abbrev pub EveryHistory : Cache → ℕ → Type 0
EveryHistory end number =
    (numbers : Numbers) (image : List ℕ) (made between : Cache) (first later : List Asking) (before now : NetworkState)
    → Opens numbers image made → AreCalls made first between → AreCalls between later end
    → between.network ≡ Some before → end.network ≡ Some now
    → (g : Shape) × (numbers_of g ≡ as_given numbers) × (number < g.banks → RunsOn g image number before now)
