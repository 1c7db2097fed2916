-- The invariant of a block: what holds of its clients, of home and of the memory after each permitted event.
-- `now` is the block's bytes as they were last stored.
use Rattle.std.proofs.Common.{◌≡◌, ◌≢◌, ℕ, ◌<◌, ◌≤◌, Bool, true, false, List, [], ◌∷◌, Option, Some, None, ◌⊎◌}
use Rattle.std.specs.List.{list_any}
use Rattle.tl_types.specs.Permission.{rank, grant_perm}
use Rattle.tl_types.specs.Message.{upward_to, upward_bytes, is_probe_ack, is_grant}
use Rattle.tl_types.specs.Bodies.{upward_from}
use Rattle.tl_types.specs.declared.permission.Perm.{Perm}
use Rattle.tl_types.specs.declared.permission.Perm.TheVariants.{None as p_None, Tip}
use Rattle.tl_types.specs.declared.permission.Grow.{Grow}
use Rattle.tl_types.specs.declared.permission.ProbeCap.{ProbeCap}
use Rattle.tl_types.specs.declared.wait.Awaited.{Awaited}
use Rattle.tl_types.specs.declared.wait.Awaited.TheVariants.{ForGrant, ForReleaseAck}
use Rattle.tl_types.specs.declared.message.Upward.{Upward}
use Rattle.tl_types.specs.declared.message.Upward.TheVariants.{ProbeAck, Release}
use Rattle.tl_types.specs.declared.message.Downward.{Downward}
use Rattle.tl_types.specs.declared.message.Downward.TheVariants.{Grant, ReleaseAck}
use Rattle.tl_protocol.specs.declared.copy.CachedCopy.{CachedCopy}
use Rattle.tl_protocol.specs.declared.copy.CachedCopy.TheVariants.{Absent, Readable, Writable}
use Rattle.tl_protocol.specs.declared.client.Client.{Client}
use Rattle.tl_protocol.specs.declared.home.Line.{Line}
use Rattle.tl_protocol.specs.declared.home.Accepted.{Accepted}
use Rattle.tl_protocol.specs.declared.home.Outward.{Outward}
use Rattle.tl_protocol.specs.declared.home.Outward.TheVariants.{Quiet, Get, Data, Put, PutAck}
use Rattle.tl_protocol.specs.declared.shape.Shape.{Shape}
use Rattle.tl_protocol.specs.Copy.{perm_of, dirty_bytes}
use Rattle.tl_protocol.specs.Client.{fresh_client, NoProbePending}
use Rattle.tl_protocol.specs.Pending.{IsGrantPending, beside}
use Rattle.tl_protocol.specs.Protocol.{Block}

-- ## A client, and the messages between it and home

-- whether an answer to a Probe is among these messages
abbrev pub has_probe_ack : List Upward → Bool
has_probe_ack c = list_any is_probe_ack c

-- whether a Grant is among these messages
abbrev pub has_grant : List Downward → Bool
has_grant d = list_any is_grant d

-- a copy has the bytes last stored
abbrev pub IsCurrent : List ℕ → CachedCopy → Type 0
IsCurrent now Absent = Unit {0}
IsCurrent now (Readable bytes) = bytes ≡ now
IsCurrent now (Writable bytes dirty) = bytes ≡ now

-- data comes from Tip alone, and is the bytes last stored
abbrev pub IsData : List ℕ → Option (List ℕ) → Perm → Type 0
IsData now None from = Unit {0}
IsData now (Some bytes) from = (bytes ≡ now) × (from ≡ Tip)

-- a message on C leads from one permission to another
abbrev pub Leads : List ℕ → Perm → Upward → Perm → Type 0
Leads now from message to = (from ≡ upward_from message) × (upward_to message ≡ to) × IsData now (upward_bytes message) from

-- a Grant brings the bytes last stored to a client that has none, and no bytes to one that has them
abbrev pub IsSent : Option (List ℕ) → List ℕ → CachedCopy → Type 0
IsSent None now held = held ≡ Readable now
IsSent (Some bytes) now held = (held ≡ Absent) × (bytes ≡ now)

-- Where nothing is on D, the messages on C lead from what home records to what the client holds: none, an answer to a Probe, a
-- Release, or an answer and then a Release, which brings no data.
abbrev pub Heard : List ℕ → CachedCopy → Awaited → Perm → List ProbeCap → List Upward → Type 0
Heard now held wait recorded b [] = (wait ≢ ForReleaseAck) × (recorded ≡ perm_of held)
Heard now held wait recorded b (ProbeAck answer ∷ []) =
    (wait ≢ ForReleaseAck) × (b ≡ []) × Leads now recorded (ProbeAck answer) (perm_of held)
Heard now held wait recorded b (Release given ∷ []) =
    (wait ≡ ForReleaseAck) × Leads now recorded (Release given) (perm_of held)
Heard now held wait recorded b (ProbeAck answer ∷ Release given ∷ []) =
    (wait ≡ ForReleaseAck) × (b ≡ []) × Leads now recorded (ProbeAck answer) (upward_from (Release given))
    × (upward_to (Release given) ≡ perm_of held) × (upward_bytes (Release given) ≡ None)
Heard now held wait recorded b (message ∷ rest) = ⊥

-- At most one message is on D. With a Grant there nothing is on B and C, home records what it grants, and the copy is still the old
-- one; with a ReleaseAck nothing is on C, and home records what the client holds.
abbrev pub Talk : List ℕ → CachedCopy → Awaited → Perm → List ProbeCap → List Upward → List Downward → Type 0
Talk now held wait recorded b c [] = Heard now held wait recorded b c
Talk now held wait recorded b c (Grant cap bytes ∷ []) =
    (c ≡ []) × (wait ≡ ForGrant) × (b ≡ []) × (recorded ≡ grant_perm cap) × IsSent bytes now held
Talk now held wait recorded b c (ReleaseAck ∷ []) = (c ≡ []) × (wait ≡ ForReleaseAck) × (recorded ≡ perm_of held)
Talk now held wait recorded b c (first ∷ second ∷ rest) = ⊥

-- at most one Acquire is on A, of a client that waits for its Grant
abbrev pub Asks : List Grow → Awaited → Type 0
Asks [] wait = Unit {0}
Asks (grow ∷ []) wait = wait ≡ ForGrant
Asks (first ∷ second ∷ rest) wait = ⊥

-- at most one Probe is on B
abbrev pub IsAtMostOne : List ProbeCap → Type 0
IsAtMostOne [] = Unit {0}
IsAtMostOne (cap ∷ []) = Unit {0}
IsAtMostOne (first ∷ second ∷ rest) = ⊥

-- What holds of one client: its copy has the bytes last stored, the messages between it and home fit, and it waits for a Grant
-- only below Tip. A Grant is never on its way together with a GrantAck.
pub record ClientIs (now : List ℕ) (k : Client) : Type 0 where
  pub current : IsCurrent now k.held
  pub talk : Talk now k.held k.wait k.recorded k.b k.c k.d
  pub asks : Asks k.a k.wait
  pub one_probe : IsAtMostOne k.b
  pub no_tip : k.wait ≡ ForGrant → perm_of k.held ≢ Tip
  pub few : k.e ≤ 1
  pub apart : has_grant k.d ≡ true → k.e ≡ 0

-- ## The Acquire that home serves, and all clients together

-- home serves this client's Acquire
abbrev pub IsServed : Option Accepted → ℕ → Type 0
IsServed None x = ⊥
IsServed (Some acquire) x = acquire.client ≡ x

-- A pending Grant is the accepted Acquire's, beside it no Probe is pending, and the other records leave it room. The client whose
-- Acquire is served waits for the Grant until it has taken it, and asks for nothing more.
pub record Service (accepted : Option Accepted) (client : ℕ → Client) : Type 0 where
  pub served : (x : ℕ) → IsGrantPending (client x) → IsServed accepted x
  pub no_probe : (x y : ℕ) → IsGrantPending (client x) → NoProbePending (client y)
  pub waits : (x : ℕ) → IsServed accepted x → (client x).e ≡ 0 → ((client x).wait ≡ ForGrant) × ((client x).a ≡ [])
  pub room :
      (acquire : Accepted) → accepted ≡ Some acquire → IsGrantPending (client acquire.client) → (x : ℕ) → x ≢ acquire.client
      → rank (client x).recorded ≤ rank (beside acquire.grow)

-- beside a record of Tip every other record is None
abbrev pub IsAlone : (ℕ → Client) → Type 0
IsAlone client = (x y : ℕ) → x ≢ y → (client x).recorded ≡ Tip → (client y).recorded ≡ p_None

-- ## Home and the memory

-- there are bytes
abbrev pub IsThere : Option (List ℕ) → Type 0
IsThere None = ⊥
IsThere (Some bytes) = Unit {0}

-- the first message of C has data
abbrev pub HasData : List Upward → Type 0
HasData [] = ⊥
HasData (message ∷ rest) = IsThere (upward_bytes message)

-- the client has bytes that home has not got yet: a dirty copy, or data on C
abbrev pub IsDirty : Client → Type 0
IsDirty k = IsThere (dirty_bytes k.held) ⊎ HasData k.c

-- where home has no copy, the bytes last stored are in the memory or on their way to it
abbrev pub OutwardIs : List ℕ → List ℕ → Outward → Type 0
OutwardIs now memory Quiet = memory ≡ now
OutwardIs now memory Get = memory ≡ now
OutwardIs now memory (Data bytes) = (bytes ≡ now) × (memory ≡ now)
OutwardIs now memory (Put bytes) = bytes ≡ now
OutwardIs now memory PutAck = memory ≡ now

-- With a copy at home nothing passes to the memory, the copy has the bytes last stored or a client has newer ones, and a clean
-- copy equals the memory. With none nobody is recorded.
abbrev pub HomeIs : List ℕ → List ℕ → Option Line → Outward → (ℕ → Client) → Type 0
HomeIs now memory (Some line) outward client =
    (outward ≡ Quiet) × ((line.bytes ≡ now) ⊎ ((x : ℕ) × IsDirty (client x))) × (line.dirty ≡ false → memory ≡ line.bytes)
HomeIs now memory None outward client = ((x : ℕ) → (client x).recorded ≡ p_None) × OutwardIs now memory outward

-- ## All together

-- the invariant of a block
pub record Invariant (shape : Shape) (now : List ℕ) (s : Block) : Type 0 where
  pub outside : (x : ℕ) → (x < shape.clients → ⊥) → s.client x ≡ fresh_client
  pub local : (x : ℕ) → ClientIs now (s.client x)
  pub service : Service s.accepted s.client
  pub alone : IsAlone s.client
  pub home : HomeIs now s.memory s.home s.outward s.client
