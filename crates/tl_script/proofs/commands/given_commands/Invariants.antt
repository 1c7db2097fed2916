use Rattle.std.proofs.Common.{◌≡◌, drop}
use Rattle.tl_script.specs.Each.{each}
use Rattle.tl_script.specs.Values.{lists}
use Rattle.tl_script.specs.Commands.{commands, commands_of_client}
use Rattle.tl_script.proofs.EachLemmas.{with_front}
use Rattle.tl_script.proofs.commands.given_commands.Given as goal

abbrev pub invariant-loop-client : goal.invariant-loop-client
invariant-loop-client l = with_front (commands l.commands.items) (each (commands_of_client l.geometry) l.client (lists (drop l.client l.all))) ≡ each (commands_of_client l.geometry) 0 (lists l.all)
