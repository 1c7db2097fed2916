use Rattle.std.proofs.Common.{◌≡◌, ℕ, [], take, slice_index_or, vec_len}
use Rattle.tlwire_closed.specs.Blocks.{lines_at}
use Rattle.tlwire_closed.proofs.blocks.lines_by_block.Given as goal

-- each block has its lines so far
abbrev pub invariant-loop-place : goal.invariant-loop-place
invariant-loop-place l = record {
  lines : (block : ℕ) → slice_index_or l.groups.items block [] ≡ lines_at l.fn.shape block 0 (take l.place l.seen);
  size : vec_len l.groups ≡ l.fn.shape.blocks;
}
