use Rattle.std.proofs.Common.{◌≡◌, not, drop}
use Rattle.std.specs.List.{list_all}
use Rattle.tl_copies.specs.Held.{waits}
use Rattle.tl_copies.specs.Entries.{Entry}
use Rattle.tl_copies.proofs.table.Table.awaits_nothing.Given as goal

abbrev pub invariant-loop-place : goal.invariant-loop-place
invariant-loop-place l =
    list_all (λ (e : Entry). not (waits e.held.wait)) l.self ≡ list_all (λ (e : Entry). not (waits e.held.wait)) (drop l.place l.self)
