use Rattle.std.proofs.Common.{◌≡◌, ◌∙◌, not, sym, ap, arith, slice_index_or}
use Rattle.tl_copies.specs.declared.held.Held.{Held}
use Rattle.tl_copies.specs.Held.{waits}
use Rattle.tl_copies.specs.Slots.{blank}
use Rattle.tl_copies.specs.Entries.{Entry}
use Rattle.tl_copies.proofs.EntryLaws.{entry}
use Rattle.tl_copies.proofs.FirstLaws.{fails-here, passes-here}
use Rattle.tl_copies.proofs.table.Table.awaits_nothing.Goals as goal

pub returns-then-waits : goal.returns-then-waits
returns-then-waits c =
    let d : Entry = entry 0 blank in
    let here : waits (slice_index_or c.args.self.now c.loop-place.place d).held.wait ≡ c.waits.result =
    ap (λ (h : Held). waits h.wait) (sym (c.held.ensures d)) ∙ sym c.waits.ensures in
    sym (c.loop-place.invariant
    ∙ fails-here (λ (e : Entry). not (waits e.held.wait)) c.args.self.now c.loop-place.place d
    (omega (arith, c.loop-place-test.true, c.len-place-end.ensures.value)) (ap not (here ∙ c.if-waits.true)))

pub loop-place-preserved : goal.loop-place-preserved
loop-place-preserved c =
    let d : Entry = entry 0 blank in
    let here : waits (slice_index_or c.args.self.now c.loop-place.place d).held.wait ≡ c.waits.result =
    ap (λ (h : Held). waits h.wait) (sym (c.held.ensures d)) ∙ sym c.waits.ensures in
    c.loop-place.invariant
    ∙ passes-here (λ (e : Entry). not (waits e.held.wait)) c.args.self.now c.loop-place.place d
    (omega (arith, c.loop-place-test.true, c.len-place-end.ensures.value)) (ap not (here ∙ c.if-waits.false))
