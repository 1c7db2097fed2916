use Rattle.std.proofs.Common.{vec_capacity, ◌≡◌, ◌≤◌, ◌+◌, ◌-◌, List, ℕ, length, ap, sym, ◌∙◌, arith}
use Rattle.std.proofs.lemmas.List.{with_items_is}
use borrow.Rule.Slice.PartMut.{put_mid}
use Rattle.tl_memory.proofs.BlockLaws.{block_in-written, filled_up-enough, length-put_mid}
use Rattle.tl_memory.proofs.memory.Memory.write.Goals as goal

pub returns-clause-blocks : goal.returns-clause-blocks
returns-clause-blocks c = λ b.
    let from = c.start-from.result in
    let k = from + c.block_bytes.result - from in
    let laid = c.lay_down.new.bytes.items in
    let copied = c.copy_from_slice.new.self in
    let bytes : length c.args.bytes.now ≡ c.self.inside.geometry.block_bytes = rw (← c.self.view_is) at c.requires.len in
    let is = c.copy_from_slice.ensures.after ∙ c.as_slice.ensures.value in
    let size : length copied ≡ k = ap (λ (xs : List ℕ). length xs) is ∙ omega (arith, bytes) in
    let enough = filled_up-enough (from + c.block_bytes.result) c.self.inside.bytes.items in
    let room : from + k ≤ length laid = rw (c.lay_down.ensures.items) (omega (arith, enough)) in
    block_in-written c.args.self.now c.self.inside.geometry c.self.inside.bank (vec_capacity c.self.inside.bytes) (vec_capacity c.lay_down.new.bytes) c.self.inside.bytes.items laid copied _ c.args.bytes.now
    c.args.block from k c.self.view_is c.self.invariant.0 c.lay_down.ensures.room (rw (← c.block_bytes.ensures.is) c.lay_down.ensures.items)
    (rw (c.as_mut_slice-laid.ensures.value)
    (with_items_is c.lay_down.new.bytes (put_mid from k laid copied) (length-put_mid laid copied from k room size ∙ ap (λ (xs : List ℕ). length xs) (sym c.as_mut_slice-laid.ensures.value) ∙ c.as_mut_slice-laid.ensures.len)))
    is
    c.requires.kept c.start-from.ensures.is c.start-from.ensures.inside (omega arith) c.requires.len b
