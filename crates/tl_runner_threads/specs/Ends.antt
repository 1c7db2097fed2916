-- How a run's threads end.
use Rattle.std.specs.Prelude.{Bool, true, false, Option, Some, None}
use Rattle.tl_client.specs.declared.turn.Turn.{Turn}
use Rattle.tl_client.specs.declared.turn.Turn.TheVariants.{Worked, Idle, Finished as LastTurn, Memory as NoMemory}
use Rattle.tl_runner_threads.specs.declared.workers.End.{End}
use Rattle.tl_runner_threads.specs.declared.workers.End.TheVariants.{Finished, Stopped, Stalled, Memory}

-- the end of a thread that made this turn, if it was the last
abbrev pub end_of_turn : Turn → Option End
end_of_turn Worked = None
end_of_turn Idle = None
end_of_turn LastTurn = Some Finished
end_of_turn NoMemory = Some Memory

-- all clients were done
abbrev pub is_finished : End → Bool
is_finished Finished = true
is_finished Stopped = false
is_finished Stalled = false
is_finished Memory = false

-- a request for memory was refused
abbrev pub lacks_memory : End → Bool
lacks_memory Finished = false
lacks_memory Stopped = false
lacks_memory Stalled = false
lacks_memory Memory = true
