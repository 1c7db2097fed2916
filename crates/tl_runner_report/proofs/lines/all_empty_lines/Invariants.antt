use Rattle.std.proofs.Common.{◌≡◌, List, [], length, map, replicate, take}
use Rattle.tl_script_words.specs.declared.command.Command.{Command}
use Rattle.tl_script.specs.Commands.{commands as commands_in}
use Rattle.tl_runner_report.specs.Loops.{bytes_on, commands_on}
use Rattle.tl_runner_report.proofs.lines.all_empty_lines.Given as goal

abbrev pub invariant-loop-list : goal.invariant-loop-list
invariant-loop-list l =
    (commands_on l.all.items ≡ take l.list-index (commands_in l.commands))
    × (bytes_on l.all.items ≡ map (λ (list : List Command). replicate (length list) []) (take l.list-index (commands_in l.commands)))
