-- The lists of a block between a client and home, and how each event moves them (TileLink 1.8, section 9).
use Rattle.std.specs.Prelude.{◌≡◌, ◌≢◌, ℕ, ◌<◌, Bool, true, false, List, [], ◌∷◌, ◌++◌, drop, map, replicate, Option, Some, None, if◌then◌else◌}
use Rattle.tl_types.specs.Lane.{is_here}
use Rattle.tl_types.specs.declared.channel.Channel.{Channel}
use Rattle.tl_types.specs.declared.channel.Channel.TheVariants.{A, B, C, D, E}
use Rattle.tl_types.specs.declared.permission.Grow.{Grow}
use Rattle.tl_types.specs.declared.permission.ProbeCap.{ProbeCap}
use Rattle.tl_types.specs.declared.message.Upward.{Upward}
use Rattle.tl_types.specs.declared.message.Downward.{Downward}
use Rattle.tl_types.specs.declared.message.Body.{Body}
use Rattle.tl_types.specs.declared.message.Body.TheVariants.{AcquireBlock, ProbeBlock, Upward as b_Upward, Downward as b_Downward, GrantAck}
use Rattle.tl_protocol.specs.declared.client.Client.{Client}
use Rattle.tl_protocol.specs.declared.event.Event.{Event}
use Rattle.tl_protocol.specs.declared.event.Event.TheVariants.{Load, Store, SendAcquire, SendRelease, AnswerProbe, TakeGrant, TakeReleaseAck, AcceptAcquire, SendProbe, TakeC, SendGrant, TakeGrantAck, SendGet, Serve, TakeData, Drop, SendPut, TakePutAck}
use Rattle.tl_protocol.specs.declared.shape.Shape.{Shape}
use Rattle.tl_protocol.specs.Protocol.{Block, May, after}
use Rattle.tl_protocol_lanes.specs.Lanes.{Post, LinkChannel, post_of, take_of}

-- a client's messages of one block on a channel, oldest first
abbrev pub list_in : Client → Channel → List Body
list_in k A = map AcquireBlock k.a
list_in k B = map ProbeBlock k.b
list_in k C = map b_Upward k.c
list_in k D = map b_Downward k.d
list_in k E = replicate k.e GrantAck

-- the list of the client x and the channel l after something is taken
abbrev pub shed : Option LinkChannel → ℕ → Channel → List Body → List Body
shed None x l bodies = bodies
shed (Some place) x l bodies = if is_here place.client place.channel x l then drop 1 bodies else bodies

-- and after something is sent
abbrev pub added : Option Post → ℕ → Channel → List Body → List Body
added None x l bodies = bodies
added (Some post) x l bodies = if is_here post.client post.channel x l then bodies ++ post.body ∷ [] else bodies

-- Each list of the block is what it was, with what the event takes gone from its front and what it sends at its end.
pub record ListsFollow (shape : Shape) (s : Block) (e : Event) : Type 0 where
  pub follow :
      (x : ℕ) (l : Channel)
      → list_in ((after shape s e).client x) l ≡ added (post_of shape s e) x l (shed (take_of e) x l (list_in (s.client x) l))

-- so it is with each permitted event, of all 18 kinds
abbrev pub EveryEventMovesItsLists : Type 0
EveryEventMovesItsLists = (shape : Shape) (s : Block) (e : Event) → May shape s e → ListsFollow shape s e

-- ## What the first of a list says

-- A list that begins with a body is of a client that has it first: so the body is of the channel's kind, and may be taken.
pub record FirstIsFirst (k : Client) : Type 0 where
  pub on_a :
      (body : Body) (rest : List Body) → list_in k A ≡ body ∷ rest
      → (grow : Grow) × (more : List Grow) × (body ≡ AcquireBlock grow) × (k.a ≡ grow ∷ more)
  pub on_b :
      (body : Body) (rest : List Body) → list_in k B ≡ body ∷ rest
      → (cap : ProbeCap) × (more : List ProbeCap) × (body ≡ ProbeBlock cap) × (k.b ≡ cap ∷ more)
  pub on_c :
      (body : Body) (rest : List Body) → list_in k C ≡ body ∷ rest
      → (message : Upward) × (more : List Upward) × (body ≡ b_Upward message) × (k.c ≡ message ∷ more)
  pub on_d :
      (body : Body) (rest : List Body) → list_in k D ≡ body ∷ rest
      → (message : Downward) × (more : List Downward) × (body ≡ b_Downward message) × (k.d ≡ message ∷ more)
  pub on_e : (body : Body) (rest : List Body) → list_in k E ≡ body ∷ rest → (body ≡ GrantAck) × (0 < k.e)

-- so it is with every client
abbrev pub EveryFirstIsFirst : Type 0
EveryFirstIsFirst = (k : Client) → FirstIsFirst k

-- ## What an event leaves as it was

-- the client that an event is of
abbrev pub client_of : Event → Option ℕ
client_of (Load access) = Some access.client
client_of (Store access) = Some access.client
client_of (SendAcquire c block grow) = Some c
client_of (SendRelease c block prune) = Some c
client_of (AnswerProbe c block) = Some c
client_of (TakeGrant c block) = Some c
client_of (TakeReleaseAck c block) = Some c
client_of (AcceptAcquire c block) = Some c
client_of (SendProbe c block cap) = Some c
client_of (TakeC c block) = Some c
client_of (SendGrant c block) = Some c
client_of (TakeGrantAck c block) = Some c
client_of (SendGet block) = None
client_of (Serve block) = None
client_of (TakeData block) = None
client_of (Drop block) = None
client_of (SendPut block) = None
client_of (TakePutAck block) = None

-- the event is of another client, or of none
abbrev pub IsOther : Option ℕ → ℕ → Type 0
IsOther None x = Unit {0}
IsOther (Some c) x = x ≢ c

-- an event leaves every client but its own
abbrev pub EveryEventIsOfOneClient : Type 0
EveryEventIsOfOneClient =
    (shape : Shape) (s : Block) (e : Event) (x : ℕ) → IsOther (client_of e) x → (after shape s e).client x ≡ s.client x

-- whether an event leaves home and the memory: what passes between them, and what home takes from a client, does not
abbrev pub leaves_home : Event → Bool
leaves_home (Load access) = true
leaves_home (Store access) = true
leaves_home (SendAcquire c block grow) = true
leaves_home (SendRelease c block prune) = true
leaves_home (AnswerProbe c block) = true
leaves_home (TakeGrant c block) = true
leaves_home (TakeReleaseAck c block) = true
leaves_home (AcceptAcquire c block) = false
leaves_home (SendProbe c block cap) = true
leaves_home (TakeC c block) = false
leaves_home (SendGrant c block) = true
leaves_home (TakeGrantAck c block) = false
leaves_home (SendGet block) = false
leaves_home (Serve block) = false
leaves_home (TakeData block) = false
leaves_home (Drop block) = false
leaves_home (SendPut block) = false
leaves_home (TakePutAck block) = false

-- home's and the memory's part of a block is the same
pub record SameHome (s t : Block) : Type 0 where
  pub memory : t.memory ≡ s.memory
  pub home : t.home ≡ s.home
  pub accepted : t.accepted ≡ s.accepted
  pub outward : t.outward ≡ s.outward

-- such an event leaves home's part of the block
abbrev pub EverySuchEventLeavesHome : Type 0
EverySuchEventLeavesHome = (shape : Shape) (s : Block) (e : Event) → leaves_home e ≡ true → SameHome s (after shape s e)
