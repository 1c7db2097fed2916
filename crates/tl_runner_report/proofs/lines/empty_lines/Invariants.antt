use Rattle.std.proofs.Common.{◌≡◌, [], map, replicate, take}
use Rattle.tl_text.specs.declared.report.Answered.{Answered}
use Rattle.tl_runner_report.proofs.lines.empty_lines.Given as goal

abbrev pub invariant-loop-command : goal.invariant-loop-command
invariant-loop-command l =
    (map (λ (line : Answered). line.command) l.lines.items ≡ take l.command-index l.commands)
    × (map (λ (line : Answered). line.bytes) l.lines.items ≡ replicate l.command-index [])
