use Rattle.std.proofs.Common.{ap, ◌∙◌}
use Rattle.tlwire_pins.proofs.Grouped.{keeps_each, nows}
use Rattle.tlwire_pins.proofs.order.keeps_order.Goals as goal

pub returns : goal.returns
returns c = λ yes.
    keeps_each c.args.cores c.args.shape c.args.client c.args.lines.now c.args.seen.now c.deref-2.result.now c.deref.result.now c.in-Some-2.some.items
    c.in-Some.all.items c.deref-3.result.now c.deref-4.result.now (ap nows c.deref.ensures.value ∙ c.in_ok-all.ensures)
    (ap nows c.deref-2.ensures.value ∙ c.in_ok-some.ensures) (rw c.in-Some.is at c.in_ok-all-2.ensures.lines)
    (rw c.in-Some-2.is at c.in_ok-some-2.ensures.lines) c.deref-3.ensures.value c.deref-4.ensures.value (c.are_beginnings.ensures yes)
