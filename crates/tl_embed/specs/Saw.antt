-- What is done for a message that was seen (this project's own).
use Rattle.std.specs.Prelude.{◌≡◌, ◌≢◌, ◌⊎◌, ℕ, zero, suc, ◌+◌, ◌*◌, ◌<◌, ◌==◌, ◌&&◌, ◌||◌, not, Bool, true, false, List, [], ◌∷◌, ◌++◌, take, drop, length, nat_eq, Option, Some, None, Result, Ok, Err, MatchResult, if◌then◌else◌}
use Rattle.std.specs.Cmp.Lexicographic.{pointwise}
use Rattle.tl_types.specs.Bodies.{body_bytes, body_kind, has_data}
use Rattle.tl_types.specs.Codes.{code_of}
use Rattle.tl_types.specs.Count.{count_below}
use Rattle.tl_types.specs.declared.channel.Channel.TheVariants.{C}
use Rattle.tl_types.specs.declared.kind.Kind.{Kind}
use Rattle.tl_types.specs.declared.message.Body.{Body}
use Rattle.tl_types.specs.declared.message.Message.{Message}
use Rattle.tl_protocol.specs.declared.copy.CachedCopy.{CachedCopy}
use Rattle.tl_protocol.specs.declared.copy.CachedCopy.TheVariants.{Absent, Readable, Writable}
use Rattle.tl_bank.specs.Contents.{copy_at}
use Rattle.tl_bank_spec.specs.Refusal.{refusal_number}
use Rattle.tl_bank_spec.specs.View.{View}
use Rattle.tl_bank_spec.specs.declared.refusal.Refusal.{Refusal}
use Rattle.tl_script_words.specs.declared.step.Step.{Step}
use Rattle.tl_script_words.specs.declared.step.Step.TheVariants as step
use Rattle.tl_script_words.specs.declared.step.TicketCall.TheVariants.{AnswerProbe}
use Rattle.tl_trace.specs.NetworkState.{NetworkState}
use Rattle.tl_trace.specs.Would.{WouldComeTo}
use Rattle.tl_embed.specs.Calls.{IsPlayed, IsStarved}
use Rattle.tl_embed.specs.Events.{Reserves}
use Rattle.tl_embed.specs.Seen.{bytes_seen, seen_asks}
use Rattle.tl_embed.specs.Told.{bytes_or_none, message_told, only}
use Rattle.tl_embed.specs.Views.{bank_for, home_of}
use Rattle.tl_embed.specs.declared.answer.Answer.{Answer}
use Rattle.tl_embed.specs.declared.cache.Cache.{Cache}
use Rattle.tl_embed.specs.declared.seen.Seen.{Seen}
use Rattle.tl_embed.specs.declared.stores.Inferred.{Inferred}
use Rattle.tl_embed.specs.declared.seen.OnC.{OnC}
use Rattle.tl_embed.specs.declared.seen.OnC.TheVariants.{Release, Answer as on_c_Answer}
use Rattle.tl_embed.specs.declared.seen.SeenAsks.{SeenAsks}
use Rattle.tl_embed.specs.declared.seen.SeenAsks.TheVariants.{Tells, Plays, Sends}

-- A message says what was seen: it is of its kind, which is its opcode and param, and has its bytes.
abbrev pub IsAsSeen : Kind → Seen → Body → Type 0
IsAsSeen kind s body = (body_kind body ≡ kind) × (bytes_or_none (body_bytes body) ≡ bytes_seen s)

-- the number of a bank, 0 where there is none
abbrev pub number_of : Option View → ℕ
number_of None = 0
number_of (Some v) = v.number

-- another message on C than the one that was seen is told, with no serial: 29
abbrev pub differs : NetworkState → Seen → Message → Answer
differs network s message =
    record (message_told (record { bank = number_of (home_of network message.block); client = s.client; channel = C; serial = 0 })
    message.body message.block) { status = 29 }

-- What is done where a step would send this message on C, or be refused: it is made where that is the message that was seen; else
-- nothing changes, and the refusal or the other message is told.
abbrev pub AsCompared : Result Message Refusal → Kind → Seen → Step → NetworkState → NetworkState → Answer → Type 0
AsCompared (Err refusal) kind s step old new told = (new ≡ old) × (told ≡ only (refusal_number refusal))
AsCompared (Ok message) kind s step old new told =
    (IsAsSeen kind s message.body × (IsPlayed 0 step old new told ⊎ IsStarved step old new told))
    ⊎ ((IsAsSeen kind s message.body → ⊥) × (new ≡ old) × (told ≡ differs old s message))

-- What the step would come to is compared with what was seen, before anything changes.
pub record Compared (kind : Kind) (s : Seen) (step : Step) (old new : NetworkState) (told : Answer) : Type 0 where
  pub outcome : Result Message Refusal
  pub would : WouldComeTo old step outcome
  pub does : AsCompared outcome kind s step old new told

-- ## Stores before it

-- the step that a call on C is
abbrev pub step_on_c : Seen → OnC → Step
step_on_c s (Release prune) = step.Release s.client s.block prune
step_on_c s (on_c_Answer ticket) = step.Ticket AnswerProbe ticket

-- eight bytes of a block
abbrev pub piece : ℕ → List ℕ → List ℕ
piece place bytes = take 8 (drop (8 * place) bytes)

-- The stores that lead from a copy at Tip to the bytes that were seen: those of each eight bytes that differ; or, where none does and
-- the copy is clean, the one of the first eight, which only makes it dirty.
abbrev pub inferred_of : Option CachedCopy → ℕ → List ℕ → Option Inferred
inferred_of None first seen = None
inferred_of (Some Absent) first seen = None
inferred_of (Some (Readable bytes)) first seen = None
inferred_of (Some (Writable own dirty)) first seen =
    if pointwise nat_eq own seen then (if dirty then None else Some (record { own = own; first = first; is_alone = true }))
    else Some (record { own = own; first = first; is_alone = false })

-- whether the eight bytes at a place are stored
abbrev pub is_stored : Inferred → List ℕ → ℕ → Bool
is_stored i seen place = (i.is_alone && (place == 0)) || not (pointwise nat_eq (piece place i.own) (piece place seen))

-- the places below a number that pass a test, in order
abbrev pub places_below : (ℕ → Bool) → ℕ → List ℕ
places_below test zero = []
places_below test (suc n) = places_below test n ++ (if test n then n ∷ [] else [])

-- the copy of the client that sent a message
abbrev pub copy_in : Option View → Seen → Option CachedCopy
copy_in None s = None
copy_in (Some v) s = copy_at v s.client s.block

-- The stores that are made before a call on C: where they are asked for, what was seen carries data, and the call would send a message
-- with the same param.
abbrev pub inferred : NetworkState → Kind → Seen → Result Message Refusal → Option Inferred
inferred network kind s (Err refusal) = None
inferred network kind s (Ok message) =
    if (s.options == 1) && (has_data kind && ((code_of (body_kind message.body)).1 == (code_of kind).1))
    then inferred_of (copy_in (bank_for network s.client s.block) s) (s.block * network.geometry.block_bytes) (bytes_seen s)
    else None

-- the store of the eight bytes at a place
abbrev pub store_of : Inferred → Seen → ℕ → Step
store_of i s place = step.Store s.client (i.first + 8 * place) (piece place (bytes_seen s))

-- the stores at these places are made, one after another, each of which is done
abbrev pub AreStored : Inferred → Seen → List ℕ → NetworkState → NetworkState → Type 0
AreStored i s [] old new = new ≡ old
AreStored i s (place ∷ places) old new =
    (next : NetworkState) × (told : Answer) × (IsPlayed s.index (store_of i s place) old next told ⊎ IsStarved (store_of i s place) old next told)
    × (told.status ≡ 0) × AreStored i s places next new

-- The stores below a place are made, and so many are told: they are all; or the one at the place was not done, whose answer is told.
pub record StoresUpTo (i : Inferred) (s : Seen) (upto : ℕ) (old mid : NetworkState) (made : ℕ) : Type 0 where
  pub stored : AreStored i s (places_below (is_stored i (bytes_seen s)) upto) old mid
  pub count : made ≡ length (places_below (is_stored i (bytes_seen s)) upto)

-- A store at a place was not done, which changed nothing: those before it stay, and so many are told.
pub record StopsAt (i : Inferred) (s : Seen) (upto : ℕ) (mid new : NetworkState) (made : ℕ) (told : Answer) : Type 0 where
  pub below : upto < 8
  pub wanted : is_stored i (bytes_seen s) upto ≡ true
  pub last : Answer
  pub asked : IsPlayed s.index (store_of i s upto) mid new last ⊎ IsStarved (store_of i s upto) mid new last
  pub refused : last.status ≢ 0
  pub same : new ≡ mid
  pub tells : told ≡ record last { stores = made }

-- the stores are made, or end at one that is not done
abbrev pub Stores : Inferred → Seen → NetworkState → NetworkState → Result ℕ Answer → Type 0
Stores i s old new (Ok made) = StoresUpTo i s 8 old new made
Stores i s old new (Err told) =
    (upto : ℕ) × (made : ℕ) × (mid : NetworkState) × StoresUpTo i s upto old mid made × StopsAt i s upto mid new made told

-- After the stores the call is compared with what was seen, and how many there were is told. Where it is refused, or differs, or a
-- store was not done, just the stores that are told stay.
pub record StoresAndSends (i : Inferred) (kind : Kind) (s : Seen) (step : Step) (ready new : NetworkState) (told : Answer) : Type 0 where
  pub made : Result ℕ Answer
  pub mid : NetworkState
  pub stores : Stores i s ready mid made
  pub ends :
      MatchResult made (λ count. (last : Answer) × Compared kind s step mid new last × (told ≡ record last { stores = count }))
      (λ last. (new ≡ mid) × (told ≡ last))

-- Room for all stores and the call is got first: where there is none that is told, and nothing changed.
pub record StoresFirst (i : Inferred) (kind : Kind) (s : Seen) (step : Step) (old new : NetworkState) (told : Answer) : Type 0 where
  pub ready : NetworkState
  pub room : Answer
  pub reserves : Reserves (number_of (home_of old s.block)) (count_below (is_stored i (bytes_seen s)) 8 + 1) old ready room
  pub does : ((room.status ≢ 0) × (new ≡ ready) × (told ≡ room)) ⊎ ((room.status ≡ 0) × StoresAndSends i kind s step ready new told)

-- What a call on C would come to is compared with what was seen, after the stores that lead there, if there are any.
abbrev pub AsLed : Option Inferred → Result Message Refusal → Kind → Seen → Step → NetworkState → NetworkState → Answer → Type 0
AsLed None outcome kind s step old new told = AsCompared outcome kind s step old new told
AsLed (Some i) outcome kind s step old new told = StoresFirst i kind s step old new told

-- the same, where what it would come to as all is decides which stores there are
pub record SendsOnC (kind : Kind) (call : OnC) (s : Seen) (old new : NetworkState) (told : Answer) : Type 0 where
  pub outcome : Result Message Refusal
  pub would : WouldComeTo old (step_on_c s call) outcome
  pub does : AsLed (inferred old kind s outcome) outcome kind s (step_on_c s call) old new told

-- what is done for what a message asks
abbrev pub SeenDoes : SeenAsks → NetworkState → Seen → NetworkState → Answer → Type 0
SeenDoes (Tells status) old s new told = (new ≡ old) × (told ≡ only status)
SeenDoes (Plays step) old s new told = IsPlayed 0 step old new told ⊎ IsStarved step old new told
SeenDoes (Sends call kind) old s new told = SendsOnC kind call s old new told

-- The cache stays open, and its banks do what the message asks.
pub record SeesOn (network : NetworkState) (old : Cache) (s : Seen) (new : Cache) (told : Answer) : Type 0 where
  pub next : NetworkState
  pub is : new ≡ record old { network = Some next }
  pub does : SeenDoes (seen_asks network s) network s next told

-- what is done for a message that was seen, where a closed cache tells 18 and why it is closed
abbrev pub SawsOn : Option NetworkState → Cache → Seen → Cache → Answer → Type 0
SawsOn None old s new told = (new ≡ old) × (told ≡ record (only 18) { serial = old.status })
SawsOn (Some network) old s new told = SeesOn network old s new told

-- what is done to a cache for a message that was seen
abbrev pub Saws : Cache → Seen → Cache → Answer → Type 0
Saws old s new told = SawsOn old.network old s new told
