use Rattle.std.proofs.Common.{◌≡◌, ℕ, [], slice_index_or, vec_len}
use Rattle.tlwire_pins.proofs.order.no_lines.Given as goal

abbrev pub invariant-loop-number : goal.invariant-loop-number
invariant-loop-number l = record {
  none : (block : ℕ) → slice_index_or l.groups.items block [] ≡ [];
  size : vec_len l.groups ≡ l.number;
}
