use Rattle.std.proofs.Common.{ℕ, [], map, arith, below_more, rules, slice_index_or}
use Rattle.std.specs.Borrow.{Bor}
use Rattle.tlwire_search.specs.declared.seen.Seen.{Seen}
use Rattle.tlwire_pins.specs.Walk.{IsBeginning}
use Rattle.tlwire_pins.proofs.Grouped.{begins}
use Rattle.tlwire_pins.proofs.order.are_beginnings.Goals as goal

pub loop-block-preserved : goal.loop-block-preserved
loop-block-preserved c =
    below_more
    (λ (b : ℕ). IsBeginning (map (λ (x : Bor Seen). x.now) (slice_index_or c.args.some.now b [])) (map (λ (x : Bor Seen). x.now) (slice_index_or c.args.all.now b [])))
    c.loop-block.block c.loop-block.invariant
    (begins c.args.some.now c.args.all.now c.loop-block.block c.index-some-block.result c.index-all-block.result c.as_slice.result.now c.as_slice-in-loop-block.result.now
    (omega arith) (omega arith) c.index-some-block.is c.index-all-block.is c.as_slice.ensures c.as_slice-in-loop-block.ensures (c.is_beginning.ensures (search rules)))

pub returns : goal.returns
returns c = λ yes block lt. c.loop-block.invariant block (omega arith)
