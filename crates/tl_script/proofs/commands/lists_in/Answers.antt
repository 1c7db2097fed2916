use Rattle.std.proofs.Common.{◌≡◌, Some, map, sym}
use Rattle.toml.specs.Data.{as_array}
use Rattle.toml.specs.View.{view, items_of}
use Rattle.tl_script.specs.Commands.{lists_in}
use Rattle.tl_script.proofs.EachLemmas.{list_of-items_of}
use Rattle.tl_script.proofs.commands.lists_in.Goals as goal

pub returns-in-Some : goal.returns-in-Some
unfolding lists_in
returns-in-Some c =
    let seen : as_array (view c.args.value.now) ≡ Some (items_of (map view c.in-Some.items.now.items)) = sym (rw c.in-Some.is at c.as_array.ensures) in
    rw (seen, list_of-items_of) (rw c.deref.ensures.value at c.lists.ensures)
