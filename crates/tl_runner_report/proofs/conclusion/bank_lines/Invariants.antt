use Rattle.std.proofs.Common.{◌≡◌, map, take}
use Rattle.tl_runner_report.specs.Conclusion.{bank_line}
use Rattle.tl_runner_report.proofs.conclusion.bank_lines.Given as goal

abbrev pub invariant-loop-place : goal.invariant-loop-place
invariant-loop-place l = l.lines.items ≡ map bank_line (take l.place l.banks)
