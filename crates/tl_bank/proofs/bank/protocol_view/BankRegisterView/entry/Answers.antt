use Rattle.std.proofs.Common.{◌<◌, subst}
use Rattle.tl_registers.specs.Records.{Records}
use Rattle.tl_bank_spec.specs.View.{View, end_at}
use Rattle.tl_bank.specs.Shown.{shown, layers}
use Rattle.tl_bank_laws.proofs.Sights.{entry-read}
use Rattle.tl_bank.proofs.bank.protocol_view.BankRegisterView.entry.Goals as goal

pub returns : goal.returns
returns c =
    let lb : c.args.block < (shown c.self.inside).geometry.memory_blocks = rw (← c.self.view_is) at c.requires in
    subst (λ (v : View). Records c.entry.result (end_at v c.args.block)) c.self.view_is
    (entry-read (shown c.self.inside) (layers c.self.inside) c.args.block c.self.invariant lb c.entry.result c.entry.ensures.dirty
    c.entry.ensures.recorded)
