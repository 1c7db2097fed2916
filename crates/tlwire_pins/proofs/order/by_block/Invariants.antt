use Rattle.std.proofs.Common.{◌≡◌, ℕ, [], filter, map, take, slice_index_or, vec_len}
use Rattle.std.specs.Borrow.{Bor}
use Rattle.tlwire_search.specs.declared.seen.Seen.{Seen}
use Rattle.tlwire_pins.specs.Walk.{is_in}
use Rattle.tlwire_pins.proofs.order.by_block.Given as goal

-- each block has its lines so far
abbrev pub invariant-loop-place : goal.invariant-loop-place
invariant-loop-place l = record {
  lines :
      (block : ℕ)
      → map (λ (x : Bor Seen). x.now) (slice_index_or l.groups.items block [])
      ≡ filter (is_in l.fn.shape block) (map (λ (x : Bor Seen). x.now) (take l.place l.lines));
  size : vec_len l.groups ≡ l.fn.shape.blocks;
}
