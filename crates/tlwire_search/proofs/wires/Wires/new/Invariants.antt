use Rattle.std.proofs.Common.{◌≡◌, ◌+◌, ◌*◌, length}
use Rattle.tlwire_search.specs.Explained.{wire_of}
use Rattle.tlwire_search.specs.Lists.{AreOfTheirWires, list_at, number_of}
use Rattle.tlwire_search.proofs.Listing.{AreWithin, BeginFrom, PassFrom}
use Rattle.tlwire_search.proofs.wires.Wires.new.Given as goal

-- the lines from a place on are in their lists
abbrev pub invariant-loop-place : goal.invariant-loop-place
invariant-loop-place l = record {
  sized : l.place + length l.in_list.items ≡ length l.seen;
  numbered : l.place + length l.on_wire.items ≡ length l.seen;
  wires : length l.next.items ≡ 2 + l.shape.clients * 6;
  ends : AreWithin l.next.items (length l.seen);
  of_wires : AreOfTheirWires l.seen l.next.items;
  nexts : BeginFrom (λ s. number_of (wire_of s)) l.seen l.next.items l.place;
  gone_by : PassFrom (λ s. number_of (wire_of s)) l.seen l.on_wire.items l.place;
  begun : BeginFrom (list_at l.width l.shape.block_bytes) l.seen l.first.items l.place;
  passed : PassFrom (list_at l.width l.shape.block_bytes) l.seen l.in_list.items l.place;
}
