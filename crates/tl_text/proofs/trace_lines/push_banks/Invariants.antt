use Rattle.std.proofs.Common.{◌≡◌, ◌++◌, drop, string_bytes}
use Rattle.tl_text.specs.Report.{lines_from}
use Rattle.tl_text.specs.Closing.{closing_lines}
use Rattle.tl_text.proofs.trace_lines.push_banks.Given as goal

abbrev pub invariant-loop-bank : goal.invariant-loop-bank
invariant-loop-bank l = string_bytes l.text ++ lines_from closing_lines l.bank (drop l.bank l.banks) ≡ string_bytes l.fn.text ++ lines_from closing_lines 0 l.banks
