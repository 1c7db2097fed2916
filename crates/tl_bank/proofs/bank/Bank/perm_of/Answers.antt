use Rattle.std.proofs.Common.{◌≡◌, ◌<◌, ◌∙◌, ap, subst}
use Rattle.tl_bank_spec.specs.View.{View, perm_at}
use Rattle.tl_bank_laws.specs.Entry.{perm_in}
use Rattle.tl_bank.specs.Shown.{shown, layers}
use Rattle.tl_bank_laws.proofs.Entries.{perm-is}
use Rattle.tl_bank.proofs.bank.Bank.perm_of.Goals as goal

pub returns : goal.returns
returns c =
    let lt : c.args.client < (shown c.self.inside).geometry.clients = rw (← c.self.view_is) at c.requires.client in
    let lb : c.args.block < (shown c.self.inside).geometry.memory_blocks = rw (← c.self.view_is) at c.requires.block in
    subst (λ (v : View). c.perm_in.result ≡ perm_at v c.args.client c.args.block) c.self.view_is
    (c.perm_in.ensures ∙ ap perm_in c.held.ensures
    ∙ perm-is (shown c.self.inside) (layers c.self.inside) c.args.client c.args.block c.self.invariant lt lb)
