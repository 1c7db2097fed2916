-- Each answer to a Probe is within what that Probe leaves (TileLink 1.8, section 9; this project's own theorem).
use Rattle.std.specs.Prelude.{◌≡◌, ℕ, ◌≤◌, ◌==◌, ◌&&◌, List, [], ◌∷◌, ◌++◌, Option, Some, None, if◌then◌else◌}
use Rattle.std.specs.List.{All}
use Rattle.tl_types.specs.Message.{upward_to}
use Rattle.tl_types.specs.Permission.{rank, probe_perm}
use Rattle.tl_types.specs.declared.permission.ProbeCap.{ProbeCap}
use Rattle.tl_types.specs.declared.message.Upward.{Upward}
use Rattle.tl_types.specs.declared.message.Upward.TheVariants.{ProbeAck, Release}
use Rattle.tl_protocol.specs.declared.client.Client.{Client}
use Rattle.tl_protocol.specs.declared.event.Event.{Event}
use Rattle.tl_protocol.specs.declared.event.Event.TheVariants.{SendProbe}
use Rattle.tl_protocol.specs.declared.shape.Shape.{Shape}
use Rattle.tl_protocol.specs.Runs.{IsRun, end_of}

-- the last Probe of a block to a client after an event, before which it is the given one
abbrev pub probe_after : Event → ℕ → ℕ → Option ProbeCap → Option ProbeCap
probe_after (SendProbe c own cap) block x before = if (block == own) && (x == c) then Some cap else before
probe_after e block x before = before

-- the last of a block to a client among these events, else the given one
abbrev pub last_probe_from : Option ProbeCap → List Event → ℕ → ℕ → Option ProbeCap
last_probe_from before [] block x = before
last_probe_from before (e ∷ es) block x = last_probe_from (probe_after e block x before) es block x

-- the last Probe of a block to a client, if there is one
abbrev pub last_probe : List Event → ℕ → ℕ → Option ProbeCap
last_probe events block x = last_probe_from None events block x

-- one more event may be a Probe
abbrev pub LastProbeGrowsByOne : Type 0
LastProbeGrowsByOne =
    (events : List Event) (e : Event) (block x : ℕ)
    → last_probe (events ++ e ∷ []) block x ≡ probe_after e block x (last_probe events block x)

-- the Probe on B is the last one
abbrev pub IsLastProbe : Option ProbeCap → List ProbeCap → Type 0
IsLastProbe last [] = Unit {0}
IsLastProbe last (cap ∷ rest) = last ≡ Some cap

-- an answer on C leads to at most what the last Probe leaves
abbrev pub IsWithin : Option ProbeCap → Upward → Type 0
IsWithin last (ProbeAck answer) =
    (cap : ProbeCap) × (last ≡ Some cap) × (rank (upward_to (ProbeAck answer)) ≤ rank (probe_perm cap))
IsWithin last (Release given) = Unit {0}

-- Of a block the Probe that is under way to a client, or its answer from it, is that of the last SendProbe.
abbrev pub AnswersItsProbe : Option ProbeCap → Client → Type 0
AnswersItsProbe last k = IsLastProbe last k.b × All (λ message. IsWithin last message) k.c

-- so it is with each client of each block in the end of every run
abbrev pub EveryAnswerIsToItsProbe : Type 0
EveryAnswerIsToItsProbe =
    (shape : Shape) (image : List ℕ) (events : List Event) → IsRun shape image events → (block x : ℕ)
    → AnswersItsProbe (last_probe events block x) ((end_of shape image events block).client x)
