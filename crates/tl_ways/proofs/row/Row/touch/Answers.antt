use Rattle.std.proofs.Common.{rules, ◌≡◌, ◌<◌, [], length, sym, subst, lit<, arith}
use Rattle.std.proofs.lemmas.Grind.{common_steps}
use Rattle.tl_ways.specs.Orders.{without_way}
use Rattle.tl_ways.specs.Rows.{Row}
use Rattle.tl_ways.proofs.OrderLaws.{touch_step, without-same, without-other, length-without-among, take-all}
use Rattle.tl_ways.proofs.RowLaws.{IsRow-touched}
use Rattle.tl_ways.proofs.row.Row.touch.Goals as goal
use Rattle.tl_ways.proofs.row.Row.touch.Goals.{then-ne, else-ne}

pub loop-other-preserved : goal.loop-other-preserved
loop-other-preserved c =
    let step = touch_step c.args.way c.other-item.result c.loop-other.other-index _ c.loop-other.order.items c.loop-other-test.true
    c.other-item.is c.loop-other.invariant.so_far in
    elim c.if-ne.branch [
      | then-ne w ↦
          let other : c.other-item.result ≡ c.args.way → ⊥ = search rules in
          record {
            so_far = rw (step, without-other c.args.way c.other-item.result [] other, w.order-is) w.push.ensures.items;
            few = rw w.order-is (omega (arith, w.push.ensures.len, c.loop-other.invariant.few));
          }
      | else-ne w ↦
          let same : c.other-item.result ≡ c.args.way = search rules in
          record {
            so_far = rw (step, without-same c.args.way c.other-item.result [] same, w.order-is) (grind (arith, common_steps));
            few = rw w.order-is (omega (arith, c.loop-other.invariant.few));
          }
    ]

pub push-requires-2 : goal.push-requires-2
push-requires-2 c =
    let whole = take-all c.as_slice-other-items.result.now c.loop-other.other-index c.loop-other-test.false in
    let others : c.loop-other.order.items ≡ without_way c.args.way c.self.inside.order.items =
    rw (whole, c.as_slice-other-items.ensures.value) at c.loop-other.invariant.so_far in
    let inside : c.args.way < length c.self.inside.entries.items =
    subst (λ (r : Row). c.args.way < length r.entries) (sym c.self.view_is) c.requires in
    let less = length-without-among c.args.way c.self.inside.order.items (c.self.invariant.all c.args.way inside) in
    let short : length c.loop-other.order.items < 8 = rw others (omega (arith, less, c.self.invariant.short)) in
    (lit< tt, short)

pub invariant_of-self : goal.invariant_of-self
invariant_of-self c =
    let whole = take-all c.as_slice-other-items.result.now c.loop-other.other-index c.loop-other-test.false in
    let others : c.loop-other.order.items ≡ without_way c.args.way c.self.inside.order.items =
    rw (whole, c.as_slice-other-items.ensures.value) at c.loop-other.invariant.so_far in
    let inside : c.args.way < length c.self.inside.entries.items =
    subst (λ (r : Row). c.args.way < length r.entries) (sym c.self.view_is) c.requires in
    rw (c.push-2.ensures.items, others)
    (IsRow-touched (record { entries = c.self.inside.entries.items; order = c.self.inside.order.items }) c.args.way c.self.invariant inside)
