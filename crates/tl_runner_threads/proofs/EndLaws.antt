-- How a thread ends by its last turn.
use Rattle.std.proofs.Common.{◌≡◌, Some, refl}
use Rattle.tl_client.specs.declared.turn.Turn.{Turn}
use Rattle.tl_client.specs.declared.turn.Turn.TheVariants.{Worked, Idle, Finished as LastTurn, Memory as NoMemory}
use Rattle.tl_runner_threads.specs.Ends.{end_of_turn}
use Rattle.tl_runner_threads.specs.declared.workers.End.{End}
use Rattle.tl_runner_threads.specs.declared.workers.End.TheVariants.{Finished}

-- a thread that finished made a turn that found all clients done
pub turn-finished : (turn : Turn) (end : End) → Some end ≡ end_of_turn turn → end ≡ Finished → turn ≡ LastTurn
turn-finished Worked end is last = cc
turn-finished Idle end is last = cc
turn-finished LastTurn end is last = refl
turn-finished NoMemory end is last = cc
