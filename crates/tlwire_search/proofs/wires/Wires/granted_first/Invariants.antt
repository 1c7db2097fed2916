use Rattle.tlwire_search.proofs.Grants.{LeastOf}
use Rattle.tlwire_search.proofs.wires.Wires.granted_first.Given as goal

-- so it is with the clients below the number
abbrev pub invariant-loop-number : goal.invariant-loop-number
invariant-loop-number l = LeastOf l.self l.block l.number l.first l.least
