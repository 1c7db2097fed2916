use Rattle.std.proofs.Common.{◌≡◌, ◌++◌, drop, string_bytes}
use Rattle.tl_text.specs.Report.{lines_from, answered_line}
use Rattle.tl_text.proofs.report_lines.push_answers.Given as goal

abbrev pub invariant-loop-index : goal.invariant-loop-index
invariant-loop-index l = string_bytes l.text ++ lines_from answered_line l.index (drop l.index l.answers) ≡ string_bytes l.fn.text ++ lines_from answered_line 0 l.answers
