use Rattle.std.proofs.Common.{◌≡◌, ◌<◌, ◌∙◌, ap, subst}
use Rattle.tl_bank_spec.specs.View.{View, client_at}
use Rattle.tl_bank_laws.specs.Entry.{copy_in}
use Rattle.tl_bank.specs.Shown.{shown, layers}
use Rattle.tl_bank_laws.proofs.Entries.{copy-is}
use Rattle.tl_bank.proofs.bank.Bank.copy_of.Goals as goal

pub returns : goal.returns
returns c =
    let lt : c.args.client < (shown c.self.inside).geometry.clients = rw (← c.self.view_is) at c.requires.client in
    let lb : c.args.block < (shown c.self.inside).geometry.memory_blocks = rw (← c.self.view_is) at c.requires.block in
    subst (λ (v : View). c.copy_in.result ≡ (client_at v c.args.client c.args.block).held) c.self.view_is
    (c.copy_in.ensures ∙ ap copy_in c.held.ensures
    ∙ copy-is (shown c.self.inside) (layers c.self.inside) c.args.client c.args.block c.self.invariant lt lb)
