use Rattle.tl_rules.proofs.Ordered.{every_certified_has_one_order, every_certified_order_is_one_memory}
use Rattle.tl_rules.proofs.theorem.every_order.Goals as goal

pub returns-clause-order : goal.returns-clause-order
returns-clause-order c = every_certified_has_one_order

pub returns-clause-memory : goal.returns-clause-memory
returns-clause-memory c = every_certified_order_is_one_memory c.every_run.ensures.memory
