use Rattle.std.proofs.Common.{arith}
use Rattle.tl_links.specs.Table.{lane_in}
use Rattle.tl_links.proofs.Counts.{IsCounted-empty}
use Rattle.tl_links.proofs.Endings.{IsCountedByEnding-empty}
use Rattle.tl_links.proofs.links.Links.new.Goals as goal

pub invariant_of-result : goal.invariant_of-result
unfolding lane_in
invariant_of-result c = (
  IsCounted-empty _ (omega (arith, c.loop.invariant.len)) c.requires (λ x k. c.loop.invariant.empty _),
  IsCountedByEnding-empty _ (λ x k. c.loop.invariant.empty _),
)
