use Rattle.std.proofs.Common.{◌≡◌, ◌++◌, drop}
use Rattle.tlwire_chart.specs.Rows.{places_of}
use Rattle.tlwire_chart.proofs.rows.places_of.Given as goal

abbrev pub invariant-loop-place : goal.invariant-loop-place
invariant-loop-place l =
    l.places.items ++ places_of l.shape.block_bytes l.block l.place (drop l.place l.seen)
    ≡ places_of l.shape.block_bytes l.block 0 l.seen
