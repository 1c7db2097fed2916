use Rattle.std.proofs.Common.{◌≡◌, ◌∙◌, Some, sym, subst}
use Rattle.std.specs.Prelude.{slice_get}
use Rattle.tl_rules.specs.PlainState.{PlainState}
use Rattle.tl_rules.proofs.Owned.{fresh_there, own_there}
use Rattle.tl_rules.proofs.plain.Plain.state.Goals as goal

pub returns-in-Some-clause-value : goal.returns-in-Some-clause-value
returns-in-Some-clause-value c =
    sym
    (subst (λ (p : PlainState). slice_get p.blocks c.args.block ≡ Some c.in-Some.state) c.self.view_is
    (own_there c.self.inside.shape c.self.inside.states.items c.args.block c.index.result.now c.in-Some.state c.self.invariant
    c.if-block-self.false c.index.ensures c.in-Some.is))

pub returns-in-None-clause-value : goal.returns-in-None-clause-value
returns-in-None-clause-value c =
    c.as_ref.ensures.value
    ∙ sym
    (subst (λ (p : PlainState). slice_get p.blocks c.args.block ≡ c.index-in-None.result.now) c.self.view_is
    (fresh_there c.self.inside.shape c.self.inside.states.items c.args.block c.index.result.now c.index-in-None.result.now c.self.invariant
    c.if-block-self.false c.index.ensures c.in-None.is c.index-in-None.ensures))
