use Rattle.std.proofs.Common.{◌≡◌, drop}
use Rattle.tl_script_words.specs.Words.{texts}
use Rattle.tlcheck_chart.specs.Rows.{said}
use Rattle.tlcheck_chart.proofs.start.said.Given as goal

abbrev pub invariant-loop-place : goal.invariant-loop-place
invariant-loop-place l = said (texts (drop l.place l.lines)) ≡ said (texts l.lines)
