use Rattle.std.proofs.Common.{◌<◌, ℕ}
use Rattle.tlwire_answer.specs.Answer.{ClientKeepsOrder, with_lines}
use Rattle.tlwire_answer.proofs.order.keep_order.Given as goal

abbrev pub invariant-loop-number : goal.invariant-loop-number
invariant-loop-number l = (client : ℕ) → client < l.number → ClientKeepsOrder (with_lines l.messages l.seen) l.lines client
