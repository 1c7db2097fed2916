use Rattle.std.proofs.Common.{◌≡◌, drop}
use Rattle.tlwire_exchanges.specs.Times.{longest_closed, longest_from}
use Rattle.tlwire_exchanges.proofs.times.longest_closed.Given as goal

-- with the rest it gives what all give
abbrev pub invariant-loop-opened : goal.invariant-loop-opened
invariant-loop-opened l = longest_from l.fn.cycles l.fn.end l.best (drop l.opened-index l.exchanges) ≡ longest_closed l.fn.cycles l.fn.end l.exchanges
