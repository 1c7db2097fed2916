use Rattle.std.proofs.Common.{◌≡◌, rules, sym, ap, ◌∙◌, ◌≤◌, false, arith}
use Rattle.std.specs.Prelude.{Some}
use Rattle.std.specs.Int.{bit_at}
use Rattle.tl_types.specs.declared.limits.TheConstants.{CLIENTS}
use Rattle.tl_ways.specs.Entries.{perm_by}
use Rattle.tl_ways.proofs.EntryLaws.{perm_of-owner, perm_of-beside, perm_of-bit, perm_of-past, bit_set, bit_clear}
use Rattle.tl_ways.proofs.entry.Entry.perm.Goals as goal

pub returns-then-eq-clause-is : goal.returns-then-eq-clause-is
returns-then-eq-clause-is c =
    let owner : c.self.inside.owner ≡ Some c.args.client = search rules in
    rw (← c.self.view_is) (sym (perm_of-owner _ c.args.client owner))

pub returns-then-eq-clause-alone : goal.returns-then-eq-clause-alone
returns-then-eq-clause-alone c = λ tip other apart.
    let owner : c.self.inside.owner ≡ Some c.args.client = search rules in
    rw (← c.self.view_is) (perm_of-beside _ c.args.client other c.self.invariant owner apart)

pub returns-then-number-clause-is : goal.returns-then-number-clause-is
returns-then-number-clause-is c =
    let no_owner : c.self.inside.owner ≡ Some c.args.client → ⊥ = search rules in
    let past : CLIENTS ≤ c.args.client = omega (arith, c.number-number.ensures) in
    rw (← c.self.view_is) (sym (perm_of-past _ c.args.client c.self.invariant past no_owner))

pub returns-then-self-number-eq1-clause-is : goal.returns-then-self-number-eq1-clause-is
returns-then-self-number-eq1-clause-is c =
    let no_owner : c.self.inside.owner ≡ Some c.args.client → ⊥ = search rules in
    let bit : bit_at c.self.inside.branches c.args.client ≡ 1 = bit_set c.self.inside.branches c.args.client (rw c.number-number.ensures at c.if-self-number-eq1.true) in
    rw (← c.self.view_is) (sym (perm_of-bit _ c.args.client no_owner ∙ ap (perm_by false) bit))

pub returns-else-self-number-eq1-clause-is : goal.returns-else-self-number-eq1-clause-is
returns-else-self-number-eq1-clause-is c =
    let no_owner : c.self.inside.owner ≡ Some c.args.client → ⊥ = search rules in
    let bit : bit_at c.self.inside.branches c.args.client ≡ 0 = bit_clear c.self.inside.branches c.args.client (rw c.number-number.ensures at c.if-self-number-eq1.false) in
    rw (← c.self.view_is) (sym (perm_of-bit _ c.args.client no_owner ∙ ap (perm_by false) bit))
