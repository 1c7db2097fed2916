use Rattle.std.proofs.Common.{◌≡◌, ◌<◌, ◌∙◌, subst}
use Rattle.tl_bank_spec.specs.View.{View}
use Rattle.tl_bank_spec.specs.Tables.{entries_at}
use Rattle.tl_bank.specs.Shown.{shown, layers}
use Rattle.tl_bank_laws.proofs.Entries.{entries-is}
use Rattle.tl_bank.proofs.bank.Bank.entries.Goals as goal

pub returns : goal.returns
returns c =
    let lt : c.args.client < (shown c.self.inside).geometry.clients = rw (← c.self.view_is) at c.requires in
    subst (λ (v : View). c.entries.result ≡ entries_at v c.args.client) c.self.view_is
    (c.entries.ensures.value ∙ entries-is (shown c.self.inside) (layers c.self.inside) c.args.client c.self.invariant lt)
