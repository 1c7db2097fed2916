-- What a client waits for is under way (TileLink 1.8, section 9; this project's own theorem).
use Rattle.std.specs.Prelude.{◌≡◌, ◌≢◌, ◌⊎◌, ℕ, Bool, true, false, List, [], ◌∷◌, Some}
use Rattle.std.specs.List.{list_any}
use Rattle.tl_types.specs.Message.{is_grant}
use Rattle.tl_types.specs.declared.wait.Awaited.TheVariants.{ForGrant, ForReleaseAck}
use Rattle.tl_types.specs.declared.message.Upward.{Upward}
use Rattle.tl_types.specs.declared.message.Upward.TheVariants.{ProbeAck, Release}
use Rattle.tl_types.specs.declared.message.Downward.{Downward}
use Rattle.tl_types.specs.declared.message.Downward.TheVariants.{Grant, ReleaseAck}
use Rattle.tl_protocol.specs.declared.event.Event.{Event}
use Rattle.tl_protocol.specs.declared.home.Accepted.{Accepted}
use Rattle.tl_protocol.specs.declared.shape.Shape.{Shape}
use Rattle.tl_protocol.specs.Client.{NoGrantPending}
use Rattle.tl_protocol.specs.Protocol.{Block}
use Rattle.tl_protocol.specs.Runs.{IsRun, end_of}

-- whether a message on C is a Release
abbrev pub is_release_given : Upward → Bool
is_release_given (ProbeAck answer) = false
is_release_given (Release given) = true

-- whether a ReleaseAck is first on D
abbrev pub is_acknowledged : List Downward → Bool
is_acknowledged [] = false
is_acknowledged (Grant cap bytes ∷ rest) = false
is_acknowledged (ReleaseAck ∷ rest) = true

-- A client's Acquire is under way: on A, or home serves it and has sent no Grant of it yet, or its Grant is on D.
abbrev pub IsAcquireUnderWay : Block → ℕ → Type 0
IsAcquireUnderWay s x =
    ((s.client x).a ≢ [])
    ⊎ ((acquire : Accepted) × (s.accepted ≡ Some acquire) × (acquire.client ≡ x) × NoGrantPending (s.client x))
    ⊎ (list_any is_grant (s.client x).d ≡ true)

-- A client's Release is under way: on C, or its ReleaseAck is first on D.
abbrev pub IsReleaseUnderWay : Block → ℕ → Type 0
IsReleaseUnderWay s x =
    (list_any is_release_given (s.client x).c ≡ true) ⊎ (is_acknowledged (s.client x).d ≡ true)

-- Who waits for a Grant has an Acquire under way, and who waits for a ReleaseAck has a Release under way.
pub record IsHeard (s : Block) (x : ℕ) : Type 0 where
  pub grant : (s.client x).wait ≡ ForGrant → IsAcquireUnderWay s x
  pub ack : (s.client x).wait ≡ ForReleaseAck → IsReleaseUnderWay s x

-- so it is with each client of each block in the end of every run
abbrev pub EveryWaitIsHeard : Type 0
EveryWaitIsHeard =
    (shape : Shape) (image : List ℕ) (events : List Event) → IsRun shape image events → (block x : ℕ)
    → IsHeard (end_of shape image events block) x
