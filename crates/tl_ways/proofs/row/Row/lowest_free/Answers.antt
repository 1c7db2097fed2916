use Rattle.std.proofs.Common.{rules, ◌≡◌, ◌<◌, true, length, sym, arith}
use Rattle.std.specs.Prelude.{not, ◌&&◌, is_none}
use Rattle.tl_types.proofs.Lowest.{lowest-at}
use Rattle.tl_ways.specs.Orders.{is_busy}
use Rattle.tl_ways.specs.Rows.{entry_in}
use Rattle.tl_ways.proofs.row.Row.lowest_free.Goals as goal

pub returns-then-not-is_busy-clause-is : goal.returns-then-not-is_busy-clause-is
returns-then-not-is_busy-clause-is c =
    let passes : (is_none (entry_in c.args.self.now c.loop-number.number) && not (is_busy c.args.busy.now c.loop-number.number)) ≡ true = search rules in
    let below : c.loop-number.number < length c.args.self.now.entries = omega (arith, c.loop-number-test.true) in
    rw c.new-way.ensures (sym (lowest-at _ c.loop-number.number _ below c.loop-number.invariant passes))
