use Rattle.tl_bank_spec.specs.Views.{IsQuiet}
use Rattle.tl_embed.proofs.Resting.{SoFar}
use Rattle.tl_embed.proofs.rest.drain_all.Given as goal

abbrev pub invariant-loop-number : goal.invariant-loop-number
invariant-loop-number l = SoFar IsQuiet l.number l.count l.initial.network l.network
