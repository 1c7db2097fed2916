use Rattle.std.proofs.Common.{sym, subst, ◌∙◌}
use Rattle.tlwire_search.specs.Premises.{drops}
use Rattle.tlwire_search.specs.declared.seen.Seen.{Seen}
use Rattle.tlwire_pins.specs.Drops.{IsBehindDrop}
use Rattle.tlwire_pins.proofs.full.release_before.Goals as goal

pub returns-then-may_drop : goal.returns-then-may_drop
returns-then-may_drop c =
    subst (λ (x : Seen). IsBehindDrop (drops c.args.premises.now) c.all_of.result x) (sym c.in-OnLink.is)
    (sym c.drops.ensures ∙ c.if-drops.true, c.all_of.ensures, sym c.has_nothing.ensures ∙ c.if-has_nothing.true)
