use Rattle.std.proofs.Common.{◌≡◌, ◌<◌, sym, ◌∙◌, subst}
use Rattle.tl_bank_spec.specs.View.{View}
use Rattle.tl_bank_spec.specs.Own.{way_at}
use Rattle.tl_bank.specs.Shown.{shown}
use Rattle.tl_bank.proofs.bank.Bank.way_of.Goals as goal

pub returns-clause-is : goal.returns-clause-is
returns-clause-is c =
    let lb : c.args.block < (shown c.self.inside).geometry.memory_blocks = rw (← c.self.view_is) at c.requires.0 in
    subst (λ (v : View). c.way.result ≡ way_at v c.args.block) c.self.view_is
    (c.way.ensures ∙ sym (c.self.invariant.ways.shown c.args.block lb))
