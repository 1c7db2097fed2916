use Rattle.std.proofs.Common.{Some, ◌∙◌, sym, ap, arith}
use Rattle.tl_copies.specs.declared.held.Held.{Held}
use Rattle.tl_copies.specs.Held.{is_copy}
use Rattle.tl_copies.specs.Slots.{blank}
use Rattle.tl_copies.specs.Entries.{Entry}
use Rattle.tl_copies.proofs.EntryLaws.{entry}
use Rattle.tl_copies.proofs.FirstLaws.{oldest-here, oldest-later}
use Rattle.tl_copies.proofs.table.Table.oldest.Goals as goal

pub returns-then-is_copy : goal.returns-then-is_copy
returns-then-is_copy c =
    let d : Entry = entry 0 blank in
    ap (λ b. Some b) (c.block.ensures d)
    ∙ sym (c.loop-place.invariant
    ∙ oldest-here c.args.self.now c.loop-place.place d (omega (arith, c.loop-place-test.true, c.len-place-end.ensures.value))
    (ap (λ (h : Held). is_copy h) (sym (c.held.ensures d)) ∙ sym c.is_copy.ensures ∙ c.if-is_copy.true))

pub loop-place-preserved : goal.loop-place-preserved
loop-place-preserved c =
    let d : Entry = entry 0 blank in
    c.loop-place.invariant
    ∙ oldest-later c.args.self.now c.loop-place.place d (omega (arith, c.loop-place-test.true, c.len-place-end.ensures.value))
    (ap (λ (h : Held). is_copy h) (sym (c.held.ensures d)) ∙ sym c.is_copy.ensures ∙ c.if-is_copy.false)
