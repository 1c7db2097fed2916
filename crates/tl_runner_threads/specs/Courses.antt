-- The courses of a client's thread and of a home's (this project's own).
use Rattle.std.specs.Prelude.{◌≡◌, ◌≢◌, ◌⊎◌, ◌≤◌, ℕ, List, Some, slice_get}
use Rattle.tl_client.specs.Agents.{Works as WorksAsAgent}
use Rattle.tl_client.specs.Answers.{AgentView}
use Rattle.tl_client.specs.Homes.{Waits, Works as WorksAsHome}
use Rattle.tl_client.specs.declared.turn.Turn.{Turn}
use Rattle.tl_client.specs.declared.turn.Turn.TheVariants.{Worked, Idle, Finished as LastTurn, Memory as NoMemory}
use Rattle.tl_client_mail.specs.Ways.{Post}
use Rattle.tl_client_ports.specs.declared.port.Asked.{Asked}
use Rattle.tl_runner_threads.specs.Course.{Closes, IsCourse}
use Rattle.tl_runner_threads.specs.declared.course.Course.{Course}
use Rattle.tl_runner_threads.specs.declared.client_worker.ClientWorker.{ClientWorker}
use Rattle.tl_runner_threads.specs.declared.home_worker.HomeWorker.{HomeWorker}
use Rattle.tl_runner_threads.specs.declared.workers.End.{End}
use Rattle.tl_runner_threads.specs.declared.workers.End.TheVariants.{Stopped}

-- what a client's thread changes by its turns
pub record ClientAt : Type 0 where
  pub agent : AgentView
  pub mail : Post

-- a client's agent and mail
abbrev pub client_at : AgentView → Post → ClientAt
client_at agent mail = record { agent = agent; mail = mail }

-- an agent's turn, among so many clients, came to this
abbrev pub IsAgentTurn : ℕ → ClientAt → Turn → ClientAt → Type 0
IsAgentTurn clients old Worked new =
    (calls : List Asked) × WorksAsAgent old.mail.inbox old.agent.links new.mail.inbox new.agent.links calls
IsAgentTurn clients old Idle new = (new.agent ≡ old.agent) × (new.mail.inbox ≡ old.mail.inbox)
IsAgentTurn clients old LastTurn new =
    (new.agent ≡ old.agent) × (new.mail.inbox ≡ old.mail.inbox) × (clients ≤ new.mail.done.seat.seen)
IsAgentTurn clients old NoMemory new = Unit {0}

-- the course of a client's thread, whose turns are its agent's
abbrev pub IsClientCourse : ℕ → AgentView → Post → Course → AgentView → Post → Course → End → Type 0
IsClientCourse clients agent mail old agent' mail' new end =
    IsCourse (IsAgentTurn clients) (client_at agent mail) old (client_at agent' mail') new end

-- what a home's thread changes by its turns
pub record HomeAt : Type 0 where
  pub home : Waits
  pub mail : Post

-- a home and its mail
abbrev pub home_at : Waits → Post → HomeAt
home_at home mail = record { home = home; mail = mail }

-- a home's turn, among so many clients, came to this
abbrev pub IsHomeTurn : ℕ → HomeAt → Turn → HomeAt → Type 0
IsHomeTurn clients old Worked new =
    (calls : List Asked) × WorksAsHome clients old.mail.inbox old.home new.mail.inbox new.home calls
IsHomeTurn clients old Idle new = (new.home ≡ old.home) × (new.mail.inbox ≡ old.mail.inbox)
IsHomeTurn clients old LastTurn new =
    (new.home ≡ old.home) × (new.mail.inbox ≡ old.mail.inbox) × (clients ≤ new.mail.done.seat.seen)
IsHomeTurn clients old NoMemory new = Unit {0}

-- the course of a home's thread, whose turns are its home's
abbrev pub IsHomeCourse : ℕ → Waits → Post → Course → Waits → Post → Course → End → Type 0
IsHomeCourse clients home mail old home' mail' new end =
    IsCourse (IsHomeTurn clients) (home_at home mail) old (home_at home' mail') new end

-- the same at the bank with a number; where no bank has it, the thread is stopped at once, and nothing changes
abbrev pub IsCourseAtBank : List ℕ → ℕ → ℕ → Waits → Post → Course → Waits → Post → Course → End → Type 0
IsCourseAtBank numbers number clients home mail old home' mail' new end =
    IsHomeCourse clients home mail old home' mail' new end
    ⊎ ((slice_get numbers number ≢ Some number) × (end ≡ Stopped) × (home' ≡ home) × (mail' ≡ mail) × (new ≡ old))

-- what a client's thread has done, among so many clients and with so many turns: its course, and it rang the stop bell
-- where it had to
abbrev pub IsClientDone : ℕ → ℕ → ClientWorker → ClientWorker → Type 0
IsClientDone clients turns old new =
    (new.client ≡ old.client)
    × ((at : Course)
    × IsClientCourse clients old.agent old.mail (record { stop = old.stop; left = turns }) new.agent new.mail at new.end
    × Closes new.end at.stop new.stop)

-- what a home's thread has done, likewise, over banks with these numbers
abbrev pub IsHomeDone : List ℕ → ℕ → ℕ → HomeWorker → HomeWorker → Type 0
IsHomeDone numbers clients turns old new =
    (new.number ≡ old.number)
    × ((at : Course)
    × IsCourseAtBank numbers old.number clients old.home old.mail (record { stop = old.stop; left = turns })
    new.home new.mail at new.end
    × Closes new.end at.stop new.stop)
