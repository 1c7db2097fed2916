use Rattle.tl_trace.specs.Rests.{IsAway}
use Rattle.tl_embed.proofs.Resting.{SoFar}
use Rattle.tl_embed.proofs.rest.flush_all.Given as goal

abbrev pub invariant-loop-number : goal.invariant-loop-number
invariant-loop-number l = SoFar IsAway l.number l.count l.initial.network l.network
