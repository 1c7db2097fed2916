use Rattle.std.proofs.Common.{◌≡◌, ◌++◌, suc, drop, map}
use Rattle.tl_script_words.specs.Words.{texts}
use Rattle.tlcheck_chart.specs.Rows.{numbers_of}
use Rattle.tlcheck_chart.specs.declared.entries.Numbered.{Numbered}
use Rattle.tlcheck_chart.proofs.entries.entries_of.Given as goal

-- the numbers of the entries so far, and of those of the other lines
abbrev pub invariant-loop-place : goal.invariant-loop-place
invariant-loop-place l =
    map (λ (numbered : Numbered). numbered.number) l.entries.items ++ numbers_of l.shape l.block (suc l.place) (texts (drop l.place l.lines))
    ≡ numbers_of l.shape l.block 1 (texts l.lines)
