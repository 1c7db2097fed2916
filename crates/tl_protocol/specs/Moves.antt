-- A block that is not quiet permits an event that moves it on, whatever home has done before (this project's own theorem).
use Rattle.std.specs.Prelude.{◌≡◌, ◌≢◌, ◌⊎◌, ℕ, ◌<◌, true, List, [], None, Some}
use Rattle.tl_types.specs.Permission.{rank, probe_perm}
use Rattle.tl_types.specs.declared.permission.ProbeCap.{ProbeCap}
use Rattle.tl_types.specs.declared.wait.Awaited.TheVariants.{Nothing}
use Rattle.tl_protocol.specs.declared.client.Client.{Client}
use Rattle.tl_protocol.specs.declared.event.Event.{Event}
use Rattle.tl_protocol.specs.declared.event.Event.TheVariants.{SendProbe, Drop, SendPut}
use Rattle.tl_protocol.specs.declared.home.Accepted.{Accepted}
use Rattle.tl_protocol.specs.declared.home.Outward.TheVariants.{Quiet}
use Rattle.tl_protocol.specs.declared.shape.Shape.{Shape}
use Rattle.tl_protocol.specs.Pending.{beside}
use Rattle.tl_protocol.specs.Protocol.{Block, block_of, May}
use Rattle.tl_protocol.specs.Runs.{IsRun, end_of}
use Rattle.tl_protocol.specs.Work.{is_receiving}

-- A client waits for nothing, and no message is on its five channels.
pub record IsQuietClient (k : Client) : Type 0 where
  pub waits : k.wait ≡ Nothing
  pub a : k.a ≡ []
  pub b : k.b ≡ []
  pub c : k.c ≡ []
  pub d : k.d ≡ []
  pub e : k.e ≡ 0

-- Nothing is under way on a block, whoever has it: home serves no Acquire of it, and nothing passes to the memory.
pub record IsQuietAt (s : Block) : Type 0 where
  pub client : (x : ℕ) → IsQuietClient (s.client x)
  pub not_accepted : s.accepted ≡ None
  pub quiet : s.outward ≡ Quiet

-- the Acquire that home serves needs this Probe: another client is recorded above what its Grant leaves room for
abbrev pub IsProbeNeeded : Block → ℕ → ProbeCap → Type 0
IsProbeNeeded s c cap =
    (acquire : Accepted) × (s.accepted ≡ Some acquire) × (c ≢ acquire.client)
    × (rank (beside acquire.grow) < rank (s.client c).recorded) × (probe_perm cap ≡ beside acquire.grow)

-- what moves a block on: no Probe that no Acquire needs, and neither a Drop nor a SendPut, all of which home does at will
abbrev pub IsNeeded : Block → Event → Type 0
IsNeeded s (SendProbe c block cap) = IsProbeNeeded s c cap
IsNeeded s (Drop block) = ⊥
IsNeeded s (SendPut block) = ⊥
IsNeeded s e = is_receiving e ≡ true

-- A block is quiet, or it permits an event that moves it on.
abbrev pub Moves : Shape → ℕ → Block → Type 0
Moves shape block s = IsQuietAt s ⊎ ((e : Event) × (block_of shape e ≡ block) × May shape s e × IsNeeded s e)

-- so it is with each block of the memory in the end of every run
abbrev pub EveryBlockMoves : Type 0
EveryBlockMoves =
    (shape : Shape) (image : List ℕ) (events : List Event) → IsRun shape image events → (block : ℕ) → block < shape.blocks
    → Moves shape block (end_of shape image events block)
