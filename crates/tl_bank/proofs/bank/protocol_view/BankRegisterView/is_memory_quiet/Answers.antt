use Rattle.std.proofs.Common.{◌≡◌, ◌∙◌, ap, subst}
use Rattle.tl_registers.specs.Pending.{is_quiet}
use Rattle.tl_bank_home.specs.Homes.{outward_in}
use Rattle.tl_bank_spec.specs.View.{View, end_at}
use Rattle.tl_bank.specs.Shown.{shown, layers}
use Rattle.tl_bank_laws.proofs.Sights.{outward-read, quiet-test}
use Rattle.tl_bank.proofs.bank.protocol_view.BankRegisterView.is_memory_quiet.Goals as goal

pub returns : goal.returns
returns c =
    subst (λ (v : View). c.is_quiet.result ≡ is_quiet (end_at v c.args.block).outward) c.self.view_is
    (quiet-test c.is_quiet.result (outward_in c.self.inside.home c.args.block) c.is_quiet.ensures
    ∙ ap is_quiet (outward-read (shown c.self.inside) (layers c.self.inside) c.args.block c.self.invariant))
