use Rattle.std.proofs.Common.{◌≡◌, drop}
use Rattle.toml.specs.View.{view}
use Rattle.tl_script.specs.Each.{each}
use Rattle.tl_script.specs.Values.{texts_of, words}
use Rattle.tl_script.specs.Commands.{command_at}
use Rattle.tl_script.proofs.EachLemmas.{with_front}
use Rattle.tl_script.proofs.commands.client_commands.Given as goal

abbrev pub invariant-loop-index : goal.invariant-loop-index
invariant-loop-index l = with_front l.commands.items (each (command_at l.geometry l.client) l.index (words (drop l.index l.values))) ≡ each (command_at l.geometry l.client) 0 (texts_of (view l.fn.list))
