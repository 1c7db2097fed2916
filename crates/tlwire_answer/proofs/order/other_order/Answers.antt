use Rattle.std.proofs.Common.{rules}
use Rattle.tlwire_answer.specs.Answer.{with_lines}
use Rattle.tlwire_answer.proofs.Told.{each_way}
use Rattle.tlwire_answer.proofs.order.other_order.Goals as goal

pub returns : goal.returns
returns c = λ none lawful. (
  c.in_ok-is_in_order.ensures (search rules),
  each_way (with_lines c.args.messages.now c.args.seen.now) c.args.run.now (c.in_ok-meets.ensures (search rules) lawful) (c.in_ok-meets-2.ensures (search rules) lawful)
      (c.in_ok-meets-3.ensures (search rules) lawful) (c.in_ok-meets_at_clients.ensures (search rules) lawful),
)
