use Rattle.std.proofs.Common.{◌≡◌, ◌++◌, drop}
use Rattle.tlwire_exchanges.specs.Opened.{AreLeft, exchanges_of, opened_from}
use Rattle.tlwire_exchanges.proofs.opened.opened_in.Given as goal

-- those that the lines so far open, before those of the rest
abbrev pub invariant-loop-place : goal.invariant-loop-place
invariant-loop-place l = record {
  all : l.all.items ++ opened_from l.seen l.place (drop l.place l.seen) ≡ exchanges_of l.seen;
  left : AreLeft l.answers l.place l.seen;
}
