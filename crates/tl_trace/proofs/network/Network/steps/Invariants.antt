use Rattle.std.proofs.Common.{take}
use Rattle.tl_trace.specs.NetworkSteps.{AreNetworkSteps}
use Rattle.tl_trace.proofs.network.Network.steps.Given as goal

abbrev pub invariant-loop-index : goal.invariant-loop-index
invariant-loop-index l = AreNetworkSteps 0 (take l.index l.steps) l.initial.self l.answers.items l.self
