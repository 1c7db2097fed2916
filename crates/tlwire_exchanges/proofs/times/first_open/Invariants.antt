use Rattle.std.proofs.Common.{◌≡◌, drop}
use Rattle.tlwire_exchanges.specs.Times.{first, is_open}
use Rattle.tlwire_exchanges.proofs.times.first_open.Given as goal

-- the first of the rest is that of all
abbrev pub invariant-loop-opened : goal.invariant-loop-opened
invariant-loop-opened l = first is_open (drop l.opened-index l.exchanges) ≡ first is_open l.exchanges
