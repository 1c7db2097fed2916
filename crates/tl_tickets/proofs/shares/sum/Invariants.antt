use Rattle.std.proofs.Common.{◌≡◌, ◌*◌, ◌≤◌, take}
use Rattle.tl_tickets.specs.Shares.{sum_of}
use Rattle.tl_tickets.proofs.shares.sum.Given as goal

abbrev pub invariant-loop-share : goal.invariant-loop-share
invariant-loop-share l = (l.sum ≡ sum_of (take l.share-index l.shares)) × (l.sum ≤ l.share-index * 4294967295)
