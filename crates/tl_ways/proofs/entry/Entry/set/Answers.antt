use Rattle.std.proofs.Common.{◌≡◌, rules}
use Rattle.std.specs.Prelude.{Some}
use Rattle.tl_ways.proofs.EntryLaws.{perm_of-tip, perm_of-branch, perm_of-ended, perm_of-cleared}
use Rattle.tl_ways.proofs.entry.Entry.set.Goals as goal
use Rattle.tl_ways.proofs.entry.Entry.set.Goals.{then-eq, else-eq}

pub returns-after-eq-clause-perms : goal.returns-after-eq-clause-perms
returns-after-eq-clause-perms c = elim c.if-eq.branch [
  | then-eq w ↦
      let owner : c.self.inside.owner ≡ Some c.args.client = search rules in
      rw (c.in-None.is, w.self-inside-is, c.number.ensures, ← c.self.view_is)
      (perm_of-ended _ c.args.client c.self.invariant c.requires.known owner)
  | else-eq w ↦
      let no_owner : c.self.inside.owner ≡ Some c.args.client → ⊥ = search rules in
      rw (c.in-None.is, w.self-inside-is, c.number.ensures, ← c.self.view_is)
      (perm_of-cleared _ c.args.client c.self.invariant c.requires.known no_owner)
]

pub returns-in-Branch-clause-perms : goal.returns-in-Branch-clause-perms
returns-in-Branch-clause-perms c =
    rw (c.in-Branch.is, c.number.ensures, ← c.self.view_is)
    (perm_of-branch _ c.args.client c.requires.known
    (λ other apart. rw c.self.view_is (c.requires.branch c.in-Branch.is other apart)))

pub returns-in-Tip-clause-perms : goal.returns-in-Tip-clause-perms
returns-in-Tip-clause-perms c =
    rw (c.in-Tip.is, ← c.self.view_is)
    (perm_of-tip _ c.args.client (λ other apart. rw c.self.view_is (c.requires.tip c.in-Tip.is other apart)))
