use Rattle.std.proofs.Common.{◌≡◌, rules}
use Rattle.std.specs.Prelude.{None, Some}
use Rattle.tl_types.specs.declared.permission.Perm.TheVariants.{None as NoAccess, Tip}
use Rattle.tl_ways.proofs.EntryLaws.{above-owner, above-branches, above-nothing}
use Rattle.tl_ways.proofs.entry.Entry.first_above.Goals as goal

pub returns-in-Some-default : goal.returns-in-Some-default
returns-in-Some-default c =
    let owner : c.self.inside.owner ≡ Some c.in-Some-default.owner = search rules in
    let other : c.args.perm ≡ Tip → ⊥ = search rules in
    rw (← c.self.view_is) (above-owner _ c.in-Some-default.owner c.args.perm c.self.invariant owner other)

pub returns-in-None-None : goal.returns-in-None-None
returns-in-None-None c =
    let none : c.self.inside.owner ≡ None = search rules in
    let nothing : c.args.perm ≡ NoAccess = search rules in
    rw (← c.self.view_is) (above-nothing _ c.args.perm c.first_branch.result none nothing (rw (← c.self.view_is) at c.first_branch.ensures))

pub returns-in-None-default : goal.returns-in-None-default
returns-in-None-default c = λ client.
    let none : c.self.inside.owner ≡ None = search rules in
    let other : c.args.perm ≡ NoAccess → ⊥ = search rules in
    rw (← c.self.view_is) (above-branches _ c.args.perm none other client)
