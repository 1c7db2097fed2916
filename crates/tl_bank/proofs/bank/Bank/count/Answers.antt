use Rattle.std.proofs.Common.{◌≡◌, ◌<◌, ◌∙◌, subst}
use Rattle.tl_bank_spec.specs.View.{View}
use Rattle.tl_bank_spec.specs.Tables.{copies_at}
use Rattle.tl_bank.specs.Shown.{shown, layers}
use Rattle.tl_bank_laws.proofs.Entries.{copies-is}
use Rattle.tl_bank.proofs.bank.Bank.count.Goals as goal

pub returns : goal.returns
returns c =
    let lt : c.args.client < (shown c.self.inside).geometry.clients = rw (← c.self.view_is) at c.requires in
    subst (λ (v : View). c.count.result ≡ copies_at v c.args.client) c.self.view_is
    (c.count.ensures.value ∙ copies-is (shown c.self.inside) (layers c.self.inside) c.args.client c.self.invariant lt)
