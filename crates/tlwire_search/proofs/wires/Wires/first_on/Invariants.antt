use Rattle.std.proofs.Common.{◌≡◌, ◌≤◌, length}
use Rattle.tlwire_search.specs.Explained.{wire_of}
use Rattle.tlwire_search.specs.Lists.{number_of}
use Rattle.tlwire_search.proofs.Listing.{PassedBy}
use Rattle.tlwire_search.proofs.wires.Wires.first_on.Given as goal

-- none of the lines that were passed is on the wire
abbrev pub invariant-loop-place : goal.invariant-loop-place
invariant-loop-place l = record {
  on : l.from ≤ l.place;
  within : l.place ≤ length l.self.seen.now;
  passed : PassedBy (λ s. number_of (wire_of s) ≡ l.wire) l.self.seen.now l.from l.place;
}
