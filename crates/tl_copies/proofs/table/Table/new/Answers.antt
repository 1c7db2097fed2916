use Rattle.std.proofs.Common.{rules}
use Rattle.tl_copies.specs.Slots.{IsSound}
use Rattle.tl_copies.proofs.HintLaws.{counted-empty}
use Rattle.tl_copies.proofs.table.Table.new.Goals as goal

pub invariant_of-result : goal.invariant_of-result
invariant_of-result c =
    let sound : IsSound c.new.result.items c.new-2.result.items c.new-3.result.items 0 = search rules in
    (sound, rw c.new.ensures counted-empty)
