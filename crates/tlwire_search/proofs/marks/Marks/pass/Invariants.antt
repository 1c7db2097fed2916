use Rattle.std.proofs.Common.{◌≡◌, ◌≤◌}
use Rattle.tlwire_search.specs.Left.{AreMarked}
use Rattle.tlwire_search.proofs.marks.Marks.pass.Given as goal

-- what was passed is marked
abbrev pub invariant-loop-place : goal.invariant-loop-place
invariant-loop-place l = record {
  marks : l.self-inside.marks ≡ l.initial.self-inside.marks;
  done : l.self-inside.done ≡ l.initial.self-inside.done;
  before : AreMarked l.self-inside.marks.items l.place;
  passed : l.self-inside.from ≤ l.place;
}
