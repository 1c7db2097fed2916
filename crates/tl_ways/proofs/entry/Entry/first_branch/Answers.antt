use Rattle.std.proofs.Common.{◌≡◌, rules}
use Rattle.tl_ways.proofs.EntryLaws.{first-bit}
use Rattle.tl_ways.proofs.entry.Entry.first_branch.Goals as goal

pub returns : goal.returns
returns c =
    let some : c.self.inside.branches ≡ 0 → ⊥ = search rules in
    rw (← c.self.view_is) (first-bit c.self.inside.branches c.new.result c.self.invariant.branches some c.new.ensures)
