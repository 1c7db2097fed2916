-- What a worker's turn came to, by the clauses of the turn.
use Rattle.std.proofs.Common.{◌≡◌, ◌≤◌, ℕ, List, refl}
use Rattle.tl_client.specs.Agents.{Works as WorksAsAgent}
use Rattle.tl_client.specs.Homes.{Works as WorksAsHome}
use Rattle.tl_client.specs.declared.turn.Turn.{Turn}
use Rattle.tl_client.specs.declared.turn.Turn.TheVariants.{Worked, Idle, Finished as LastTurn, Memory as NoMemory}
use Rattle.tl_client_ports.specs.declared.port.Asked.{Asked}
use Rattle.tl_runner_threads.specs.Courses.{ClientAt, HomeAt, IsAgentTurn, IsHomeTurn}

-- an agent's turn
pub agent-turn : (clients : ℕ) (old new : ClientAt) (calls : List Asked) (turn : Turn)
    → (turn ≡ Worked → WorksAsAgent old.mail.inbox old.agent.links new.mail.inbox new.agent.links calls)
    → (turn ≡ Idle → (new.agent ≡ old.agent) × (new.mail.inbox ≡ old.mail.inbox))
    → (turn ≡ LastTurn → (new.agent ≡ old.agent) × (new.mail.inbox ≡ old.mail.inbox) × (clients ≤ new.mail.done.seat.seen))
    → IsAgentTurn clients old turn new
agent-turn clients old new calls Worked works idle finished = (calls, works refl)
agent-turn clients old new calls Idle works idle finished = idle refl
agent-turn clients old new calls LastTurn works idle finished = finished refl
agent-turn clients old new calls NoMemory works idle finished = tt

-- a home's turn
pub home-turn : (clients : ℕ) (old new : HomeAt) (calls : List Asked) (turn : Turn)
    → (turn ≡ Worked → WorksAsHome clients old.mail.inbox old.home new.mail.inbox new.home calls)
    → (turn ≡ Idle → (new.home ≡ old.home) × (new.mail.inbox ≡ old.mail.inbox))
    → (turn ≡ LastTurn → (new.home ≡ old.home) × (new.mail.inbox ≡ old.mail.inbox) × (clients ≤ new.mail.done.seat.seen))
    → IsHomeTurn clients old turn new
home-turn clients old new calls Worked works idle finished = (calls, works refl)
home-turn clients old new calls Idle works idle finished = idle refl
home-turn clients old new calls LastTurn works idle finished = finished refl
home-turn clients old new calls NoMemory works idle finished = tt
