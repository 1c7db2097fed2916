use Rattle.std.proofs.Common.{◌≡◌, ◌++◌, drop, map}
use Rattle.std.specs.List.{All}
use Rattle.tlchart_draw.specs.Strip.{IsUnbroken}
use Rattle.tlchart_draw.specs.declared.strip.Row.{Row}
use Rattle.tlwire_answer.specs.Lines.{number_at}
use Rattle.tlwire_chart.specs.Rows.{told_at, told_by}
use Rattle.tlwire_chart.proofs.rows.rows_of.Given as goal

abbrev pub invariant-loop-place : goal.invariant-loop-place
invariant-loop-place l = record {
  told : map told_by l.rows.items ++ map (told_at l.messages) (drop l.place-index l.places) ≡ map (told_at l.messages) l.places;
  numbered :
      map (λ (row : Row). row.line.number) l.rows.items ++ map (number_at l.messages.lines) (drop l.place-index l.places)
      ≡ map (number_at l.messages.lines) l.places;
  unbroken : All IsUnbroken l.rows.items;
}
