-- What an agent's answers say of loads and stores (this project's own).
use Rattle.std.specs.Prelude.{◌≡◌, ◌⊎◌, ◌≤◌, ℕ, Bool, true, false, ◌++◌, List, [], ◌∷◌, length, take, map}
use Rattle.std.specs.List.{All, list_all}
use Rattle.tl_bank_spec.specs.declared.when.When.{When}
use Rattle.tl_script_words.specs.declared.command.Command.{Command}
use Rattle.tl_script_words.specs.declared.command.Command.TheVariants.{Load, Store, Drop}
use Rattle.tl_text.specs.declared.report.Answered.{Answered}
use Rattle.tl_client_mail.specs.Ways.{Post, RingsOnce, has_none_back}
use Rattle.tl_client_ports.specs.declared.port.Success.{Success}
use Rattle.tl_client_ports.specs.declared.port.Success.TheVariants.{Loaded, Stored}
use Rattle.tl_client.specs.Agents.{ClientLinks}

-- the success that carries a command out, which got these bytes and this stamp; none at a drop
abbrev pub success_at : ℕ → When → Command → List ℕ → ℕ → List Success
success_at client when (Load address len) bytes stamp = Loaded client address len bytes when stamp ∷ []
success_at client when (Store address stored) bytes stamp = Stored client address stored when stamp ∷ []
success_at client when (Drop address) bytes stamp = []

-- the bytes of an answer: those that a store was to write, none at a drop
abbrev pub HasItsBytes : Command → List ℕ → Type 0
HasItsBytes (Load address len) bytes = Unit {0}
HasItsBytes (Store address stored) bytes = bytes ≡ stored
HasItsBytes (Drop address) bytes = bytes ≡ []

-- an answer has the bytes of its command
abbrev pub IsAnswer : Answered → Type 0
IsAnswer a = HasItsBytes a.command a.bytes

-- the first commands of a script, answered with these bytes
abbrev pub answered_of : List (List ℕ) → List Command → List Answered
answered_of [] script = []
answered_of (bytes ∷ rest) [] = []
answered_of (bytes ∷ rest) (command ∷ script) = record { command = command; bytes = bytes } ∷ answered_of rest script

-- the commands of a list of answered commands
abbrev pub commands_of : List Answered → List Command
commands_of answered = map (λ (a : Answered). a.command) answered

-- the stamp that a client got with a success
abbrev pub stamp_of : Success → ℕ
stamp_of (Loaded client address len bytes when stamp) = stamp
stamp_of (Stored client address bytes when stamp) = stamp

-- a client's clock after some successes: the last stamp that it got
abbrev pub clock_after : ℕ → List Success → ℕ
clock_after clock [] = clock
clock_after clock (s ∷ rest) = clock_after (stamp_of s) rest

-- what contracts see of an agent: its clock is the last stamp that it got, its client is that of its links, and it has
-- rung the done bell or not
pub record AgentView : Type 0 where
  pub links : ClientLinks
  pub script : List Command
  pub answered : List Answered
  pub clock : ℕ
  pub has_rung : Bool

-- what an agent hands with its present command: its clock, and the command's index
abbrev pub when_of : AgentView → When
when_of t = record { clock = t.clock; index = length t.answered }

-- the successes by which an agent carried commands out, with this stamp
abbrev pub successes_of : AgentView → List Answered → ℕ → List Success
successes_of t [] stamp = []
successes_of t (a ∷ rest) stamp = success_at t.links.client (when_of t) a.command a.bytes stamp ++ successes_of t rest stamp

-- What was answered stays, and at most one answer joins it. The port's list gains just the success of that answer, asked with the
-- agent's own clock and index, and its stamp is the clock afterwards
abbrev pub Gains : AgentView → List Success → AgentView → List Success → Type 0
Gains old was new is =
    (new.links.client ≡ old.links.client) × (new.script ≡ old.script)
    × ((added : List Answered) × (length added ≤ 1) × (new.answered ≡ old.answered ++ added)
    × (is ≡ was ++ successes_of old added new.clock) × (new.clock ≡ clock_after old.clock (successes_of old added new.clock)))

-- the answered commands are a beginning of the script's, each with its bytes
abbrev pub IsBeginning : AgentView → Type 0
IsBeginning t = (commands_of t.answered ≡ take (length t.answered) t.script) × All IsAnswer t.answered

-- all is answered, no answer of home to an Acquire or Release of the agent's own is awaited, and no ticket that an inbox
-- handed back waits to be put
abbrev pub IsDone : AgentView → Post → Type 0
IsDone t mail =
    (length t.answered ≡ length t.script) × (t.links.awaits ≡ false) × (list_all has_none_back mail.ways ≡ true)

-- the done bell is left alone, or the agent, which is done and had not rung it, rings it once
abbrev pub RingsDone : AgentView → Post → AgentView → Post → Type 0
RingsDone old before new after =
    ((new.has_rung ≡ old.has_rung) × (after.done.seat.rung ≡ before.done.seat.rung))
    ⊎ ((old.has_rung ≡ false) × (new.has_rung ≡ true) × IsDone new after × RingsOnce before.done after.done)
