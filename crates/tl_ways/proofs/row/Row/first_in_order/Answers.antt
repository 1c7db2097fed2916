use Rattle.std.proofs.Common.{rules, ◌≡◌, ◌<◌, true, length, ap, sym, ◌∙◌, subst}
use Rattle.std.specs.Prelude.{not, find, None}
use Rattle.std.proofs.lemmas.Bool.{not-false}
use Rattle.tl_ways.specs.Orders.{is_busy, IsAmong}
use Rattle.tl_ways.specs.Rows.{Row}
use Rattle.tl_ways.proofs.OrderLaws.{find-first, among-at, none-found, take-all}
use Rattle.tl_ways.proofs.row.Row.first_in_order.Goals as goal

pub returns-then-not-is_busy-clause-is : goal.returns-then-not-is_busy-clause-is
returns-then-not-is_busy-clause-is c =
    let free : not (is_busy c.args.busy.now c.way-item.result) ≡ true = search rules in
    let items : c.as_slice-way-items.result.now ≡ c.args.self.now.order =
    c.as_slice-way-items.ensures.value ∙ ap (λ (r : Row). r.order) c.self.view_is in
    sym (rw (← items) (find-first _ _ c.loop-way.way-index c.way-item.result c.loop-way-test.true c.way-item.is c.loop-way.invariant free))

pub returns-then-not-is_busy-clause-inside : goal.returns-then-not-is_busy-clause-inside
returns-then-not-is_busy-clause-inside c =
    let there : IsAmong c.way-item.result c.self.inside.order.items =
    rw (← c.as_slice-way-items.ensures.value) (among-at _ c.loop-way.way-index _ c.loop-way-test.true c.way-item.is) in
    rw (← c.self.view_is) (c.self.invariant.only c.way-item.result there)

pub returns-clause-none : goal.returns-clause-none
returns-clause-none c = λ way inside.
    let items : c.as_slice-way-items.result.now ≡ c.args.self.now.order =
    c.as_slice-way-items.ensures.value ∙ ap (λ (r : Row). r.order) c.self.view_is in
    let whole = take-all c.as_slice-way-items.result.now c.loop-way.way-index c.loop-way-test.false in
    let none : find (λ way. not (is_busy c.args.busy.now way)) c.as_slice-way-items.result.now ≡ None = rw whole at c.loop-way.invariant in
    let inside' : way < length c.self.inside.entries.items = subst (λ (r : Row). way < length r.entries) (sym c.self.view_is) inside in
    let there : IsAmong way c.as_slice-way-items.result.now = rw c.as_slice-way-items.ensures.value (c.self.invariant.all way inside') in
    not-false _ (none-found _ _ way none there)
