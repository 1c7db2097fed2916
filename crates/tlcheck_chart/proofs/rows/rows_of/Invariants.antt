use Rattle.std.proofs.Common.{◌≡◌, ◌++◌, drop, map}
use Rattle.std.specs.List.{All}
use Rattle.tlchart_draw.specs.Strip.{IsUnbroken}
use Rattle.tlchart_draw.specs.declared.strip.Row.{Row}
use Rattle.tlcheck_chart.specs.declared.entries.Numbered.{Numbered}
use Rattle.tlcheck_chart.proofs.rows.rows_of.Given as goal

-- the numbers of the rows so far, and of the other entries
abbrev pub invariant-loop-numbered : goal.invariant-loop-numbered
invariant-loop-numbered l = record {
  numbered :
      map (λ (row : Row). row.line.number) l.rows.items ++ map (λ (numbered : Numbered). numbered.number) (drop l.numbered-index l.entries)
      ≡ map (λ (numbered : Numbered). numbered.number) l.entries;
  unbroken : All IsUnbroken l.rows.items;
}
