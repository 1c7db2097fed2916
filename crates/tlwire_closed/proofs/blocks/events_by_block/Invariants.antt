use Rattle.std.proofs.Common.{◌≡◌, ℕ, [], take, slice_index_or, vec_len}
use Rattle.tl_protocol.specs.Merges.{on_block}
use Rattle.tlwire_closed.proofs.blocks.events_by_block.Given as goal

-- each block has its events so far
abbrev pub invariant-loop-place : goal.invariant-loop-place
invariant-loop-place l = record {
  events : (block : ℕ) → slice_index_or l.groups.items block [] ≡ on_block l.fn.shape block (take l.place l.run);
  size : vec_len l.groups ≡ l.fn.shape.blocks;
}
