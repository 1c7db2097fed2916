use Rattle.std.proofs.Common.{◌≡◌, ◌-◌, ◌++◌, [], replicate, length}
use Rattle.tl_script.specs.Commands.{commands}
use Rattle.tl_script.proofs.commands.padded.Given as goal

abbrev pub invariant-loop-alloc : goal.invariant-loop-alloc
invariant-loop-alloc l = commands l.given.items ++ replicate (l.clients - length l.given.items) [] ≡ commands l.fn.given.items ++ replicate (l.clients - length l.fn.given.items) []

abbrev pub decreases-loop-alloc : goal.decreases-loop-alloc
decreases-loop-alloc l = l.clients - length l.given.items
