use Rattle.std.proofs.Common.{◌≡◌, ◌++◌, drop, string_bytes}
use Rattle.tl_text.specs.Report.{lines_from}
use Rattle.tl_text.specs.Trace.{answer_line}
use Rattle.tl_text.proofs.trace_lines.push_answers.Given as goal

abbrev pub invariant-loop-index : goal.invariant-loop-index
invariant-loop-index l = string_bytes l.text ++ lines_from answer_line l.index (drop l.index l.answers) ≡ string_bytes l.fn.text ++ lines_from answer_line 0 l.answers
