use Rattle.std.proofs.Common.{◌≡◌, ℕ, List, Option, Some, IsSome, refl, subst, ap, ◌∙◌, BTreeMap}
use Rattle.std.specs.BTreeMap.{get}
use Rattle.std.specs.Option.{option_flatten}
use Rattle.tlwire_exchanges.specs.Opened.{after, by_key, first_of, key_of}
use Rattle.tlwire_exchanges.specs.declared.answers.Key.{Key}
use Rattle.tlwire_exchanges.specs.declared.exchange.Exchange.{Exchange}
use Rattle.tlwire_exchanges.proofs.Same.{taken}
use Rattle.tlwire_exchanges.proofs.answers.Answers.take.Goals as goal

-- what was found is the first answer
first_is : (m : BTreeMap Key (Option ℕ)) (e : Exchange) (key : Key) (first : Option ℕ)
    → Some first ≡ get by_key m key → key ≡ key_of e → first ≡ first_of m e
first_is m e key first found own =
    ap (λ (o : Option (Option ℕ)). option_flatten o) (found ∙ ap (λ (k : Key). get by_key m k) own)

pub after-requires : goal.after-requires
after-requires c =
    let first =
    first_is c.args.self.now.first c.args.exchange c.key_of.result c.in_ok-first.first.now c.in_ok-first.ensures.value
    c.key_of.ensures in
    rw (first, c.deref.ensures.value) (c.requires c.args.exchange)

pub returns-clause-first : goal.returns-clause-first
returns-clause-first c = λ e.
    let first =
    first_is c.args.self.now.first c.args.exchange c.key_of.result c.in_ok-first.first.now c.in_ok-first.ensures.value
    c.key_of.ensures in
    let found : IsSome (get by_key c.args.self.now.first c.key_of.result) =
    subst (λ (o : Option (Option ℕ)). IsSome o) c.in_ok-first.ensures.value refl in
    taken c.args.self.now.next.items c.args.self.now.first (c.get_mut.follows.lender c.after.result) c.args.exchange e
    c.key_of.result c.after.result c.key_of.ensures
    (c.after.ensures
    ∙ (ap (λ (xs : List (Option ℕ)). after xs c.in_ok-first.first.now) c.deref.ensures.value
    ∙ ap (λ (o : Option ℕ). after c.args.self.now.next.items o) first))
    (((c.get_mut.follows.holds c.after.result).3 found).0 (key_of e))
