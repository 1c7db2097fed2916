use Rattle.std.proofs.Common.{length, ◌-◌, ◌≤◌}
use Rattle.tlwire_search.specs.Sought.{IsLike}
use Rattle.tlwire_search.proofs.Listing.{PassedBy}
use Rattle.tlwire_search.proofs.wires.Wires.next_like.Given as goal

-- what was passed is sent, or is not what is sought
abbrev pub invariant-loop-place : goal.invariant-loop-place
invariant-loop-place l = record {
  unsent : l.next ≤ l.place;
  passed : PassedBy (IsLike l.self.shape.block_bytes l.wire l.block l.sought) l.self.seen.now l.next l.place;
}

abbrev pub decreases-loop-place : goal.decreases-loop-place
decreases-loop-place l = length l.self.seen.now - l.place
