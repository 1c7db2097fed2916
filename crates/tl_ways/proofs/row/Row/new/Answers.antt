use Rattle.std.proofs.Common.{◌≡◌, ap, ◌∙◌, arith}
use Rattle.tl_ways.specs.Orders.{rising}
use Rattle.tl_ways.proofs.RowLaws.{IsRow-empty}
use Rattle.tl_ways.proofs.row.Row.new.Goals as goal

pub invariant_of-result : goal.invariant_of-result
invariant_of-result c =
    let all : c.loop-number.number ≡ c.args.ways = omega (arith, c.loop-number-test.false) in
    let kept = c.loop-number.invariant in
    IsRow-empty c.args.ways _ c.requires (record { entries = kept.entries ∙ all; free = kept.free }) (kept.order ∙ ap rising all)
