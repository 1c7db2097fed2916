use Rattle.std.proofs.Common.{rules}
use Rattle.tl_ways.specs.Orders.{chosen}
use Rattle.tl_ways.proofs.row.Row.choose.Goals as goal

pub returns-in-Some-clause-is : goal.returns-in-Some-clause-is
unfolding chosen
returns-in-Some-clause-is c = search rules
