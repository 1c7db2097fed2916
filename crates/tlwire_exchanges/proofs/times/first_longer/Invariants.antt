use Rattle.std.proofs.Common.{◌≡◌, drop}
use Rattle.tlwire_exchanges.specs.Times.{first, is_longer}
use Rattle.tlwire_exchanges.proofs.times.first_longer.Given as goal

-- the first of the rest is that of all
abbrev pub invariant-loop-opened : goal.invariant-loop-opened
invariant-loop-opened l = first (is_longer l.fn.cycles l.fn.end l.fn.most) (drop l.opened-index l.exchanges) ≡ first (is_longer l.fn.cycles l.fn.end l.fn.most) l.exchanges
