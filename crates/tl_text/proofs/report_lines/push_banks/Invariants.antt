use Rattle.std.proofs.Common.{◌≡◌, ◌++◌, drop, string_bytes}
use Rattle.tl_text.specs.Report.{lines_from, bank_line}
use Rattle.tl_text.proofs.report_lines.push_banks.Given as goal

abbrev pub invariant-loop-bank : goal.invariant-loop-bank
invariant-loop-bank l = string_bytes l.text ++ lines_from bank_line l.bank (drop l.bank l.banks) ≡ string_bytes l.fn.text ++ lines_from bank_line 0 l.banks
