-- What a run keeps of the messages that are under way, and of the Acquire that home serves (TileLink 1.8, section 9; this
-- project's own theorems).
use Rattle.std.specs.Prelude.{◌≡◌, ◌≢◌, ◌⊎◌, ℕ, ◌<◌, ◌≤◌, true, false, List, [], ◌∷◌, length, Option, Some, None}
use Rattle.std.specs.List.{list_any}
use Rattle.tl_types.specs.Message.{probe_answer, upward_to, is_grant}
use Rattle.tl_types.specs.Bodies.{upward_from}
use Rattle.tl_types.specs.Permission.{rank, probe_perm, grant_perm}
use Rattle.tl_types.specs.declared.permission.Perm.{Perm}
use Rattle.tl_types.specs.declared.permission.Perm.TheVariants.{None as p_None, Branch, Tip}
use Rattle.tl_types.specs.declared.permission.Grow.{Grow}
use Rattle.tl_types.specs.declared.permission.Grow.TheVariants.{NtoB, NtoT, BtoT}
use Rattle.tl_types.specs.declared.permission.ProbeCap.{ProbeCap}
use Rattle.tl_types.specs.declared.permission.GrantCap.{GrantCap}
use Rattle.tl_types.specs.declared.message.Upward.{Upward}
use Rattle.tl_types.specs.declared.message.Upward.TheVariants.{ProbeAck}
use Rattle.tl_types.specs.declared.message.Downward.{Downward}
use Rattle.tl_types.specs.declared.message.Downward.TheVariants.{Grant, ReleaseAck}
use Rattle.tl_types.specs.declared.wait.Awaited.TheVariants.{ForGrant, ForReleaseAck}
use Rattle.tl_protocol.specs.declared.client.Client.{Client}
use Rattle.tl_protocol.specs.declared.event.Event.{Event}
use Rattle.tl_protocol.specs.declared.home.Accepted.{Accepted}
use Rattle.tl_protocol.specs.declared.home.Line.{Line}
use Rattle.tl_protocol.specs.declared.home.Outward.TheVariants.{Quiet}
use Rattle.tl_protocol.specs.declared.shape.Shape.{Shape}
use Rattle.tl_protocol.specs.Client.{fresh_client, NoProbePending, NoGrantPending}
use Rattle.tl_protocol.specs.Copy.{perm_of}
use Rattle.tl_protocol.specs.Protocol.{Block}
use Rattle.tl_protocol.specs.Runs.{IsRun, end_of}

-- a Grant is on its way to the client, or a GrantAck from it
abbrev pub IsGrantPending : Client → Type 0
IsGrantPending k = (list_any is_grant k.d ≡ true) ⊎ (0 < k.e)

-- ## The messages of each client

-- the messages lead from one permission to another, each from where the one before it led
abbrev pub Lead : Perm → List Upward → Perm → Type 0
Lead from [] to = from ≡ to
Lead from (message ∷ rest) to = (from ≡ upward_from message) × Lead (upward_to message) rest to

-- What passes between one client and home.
pub record IsOrderly (k : Client) : Type 0 where
  -- of each block at most one Acquire, one Probe, two messages on C, one on D and one GrantAck are under way
  pub one_acquire : length k.a ≤ 1
  pub one_probe : length k.b ≤ 1
  pub two_on_c : length k.c ≤ 2
  pub one_on_d : length k.d ≤ 1
  pub one_grant_ack : k.e ≤ 1
  -- with no Grant on D the messages on C lead from what home records to what the client holds
  pub leads : list_any is_grant k.d ≡ false → Lead k.recorded k.c (perm_of k.held)
  -- a client that asks waits for its Grant, and is below Tip until it has it
  pub asks : (grow : Grow) (rest : List Grow) → k.a ≡ grow ∷ rest → k.wait ≡ ForGrant
  pub below_tip : k.wait ≡ ForGrant → perm_of k.held ≢ Tip
  -- a Grant comes to a client that waits for it, and while it is under way nothing is on B and C
  pub granted :
      (cap : GrantCap) (bytes : Option (List ℕ)) (rest : List Downward) → k.d ≡ Grant cap bytes ∷ rest
      → (k.wait ≡ ForGrant) × (k.b ≡ []) × (k.c ≡ []) × (k.recorded ≡ grant_perm cap)
  -- a ReleaseAck comes to a client that waits for it, when nothing is on C any more
  pub acknowledged : (rest : List Downward) → k.d ≡ ReleaseAck ∷ rest → (k.wait ≡ ForReleaseAck) × (k.c ≡ [])

-- so it is with each client of each block in the end of every run
abbrev pub EveryRunKeepsMessages : Type 0
EveryRunKeepsMessages =
    (shape : Shape) (image : List ℕ) (events : List Event) → IsRun shape image events → (block x : ℕ)
    → IsOrderly ((end_of shape image events block).client x)

-- no message on C leads upward
abbrev pub EveryMessageLeadsDown : Type 0
EveryMessageLeadsDown = (message : Upward) → rank (upward_to message) ≤ rank (upward_from message)

-- an answer to a Probe leads to at most what the Probe leaves
abbrev pub EveryAnswerIsWithin : Type 0
EveryAnswerIsWithin =
    (perm : Perm) (cap : ProbeCap) (bytes : Option (List ℕ))
    → rank (upward_to (ProbeAck (probe_answer perm cap bytes))) ≤ rank (probe_perm cap)

-- ## The Acquire that home serves

-- what the others may have at most beside a Grant to a client that asks so
abbrev pub beside : Grow → Perm
beside NtoB = Branch
beside NtoT = p_None
beside BtoT = p_None

-- Home, the Acquire that it serves, and what is pending.
pub record IsServiceAt (shape : Shape) (s : Block) : Type 0 where
  -- a pending Grant is the accepted Acquire's, and no Probe is pending beside it
  pub served : (x : ℕ) → IsGrantPending (s.client x) → (acquire : Accepted) × (s.accepted ≡ Some acquire) × (acquire.client ≡ x)
  pub no_probe : (x y : ℕ) → IsGrantPending (s.client x) → NoProbePending (s.client y)
  -- with no Acquire accepted no Grant is pending
  pub no_grant : s.accepted ≡ None → (x : ℕ) → NoGrantPending (s.client x)
  -- until the Grant is sent the client waits for it, and asks for nothing more
  pub waits :
      (acquire : Accepted) → s.accepted ≡ Some acquire → NoGrantPending (s.client acquire.client)
      → ((s.client acquire.client).wait ≡ ForGrant) × ((s.client acquire.client).a ≡ [])
  -- and where no Probe of it is pending nothing is under way, and it is not recorded Tip
  pub settled :
      (acquire : Accepted) → s.accepted ≡ Some acquire → NoGrantPending (s.client acquire.client)
      → NoProbePending (s.client acquire.client)
      → ((s.client acquire.client).c ≡ []) × ((s.client acquire.client).d ≡ [])
      × ((s.client acquire.client).recorded ≡ perm_of (s.client acquire.client).held)
      × ((s.client acquire.client).recorded ≢ Tip)
  -- beside a pending Grant no other client is recorded above what it leaves room for
  pub room :
      (acquire : Accepted) → s.accepted ≡ Some acquire → IsGrantPending (s.client acquire.client) → (x : ℕ)
      → x ≢ acquire.client → rank (s.client x).recorded ≤ rank (beside acquire.grow)
  -- beside a record of Tip every other is None
  pub alone : (x y : ℕ) → x ≢ y → (s.client x).recorded ≡ Tip → (s.client y).recorded ≡ p_None
  -- a block that anybody is recorded of is at home, and nothing passes to the memory while it is
  pub at_home : (x : ℕ) → (s.client x).recorded ≢ p_None → (line : Line) × (s.home ≡ Some line)
  pub quiet : (line : Line) → s.home ≡ Some line → s.outward ≡ Quiet
  -- there are no clients past the last
  pub outside : (x : ℕ) → (x < shape.clients → ⊥) → s.client x ≡ fresh_client

-- so it is with each block in the end of every run
abbrev pub EveryRunKeepsService : Type 0
EveryRunKeepsService =
    (shape : Shape) (image : List ℕ) (events : List Event) → IsRun shape image events → (block : ℕ)
    → IsServiceAt shape (end_of shape image events block)
