use Rattle.tl_embed.proofs.InTurn.{SoFar}
use Rattle.tl_embed.proofs.many.calls.Given as goal

abbrev pub invariant-loop-place : goal.invariant-loop-place
invariant-loop-place l = SoFar l.initial.cache l.requests l.initial.answers l.cache l.answers l.place
