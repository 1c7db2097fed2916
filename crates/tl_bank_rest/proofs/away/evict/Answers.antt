use Rattle.std.proofs.Common.{subst}
use Rattle.tl_map.specs.Limits.{IsLawful}
use Rattle.tl_map.specs.Numbers.{Numbers}
use Rattle.tl_bank_rest.proofs.Flushing.{sends-away}
use Rattle.tl_bank_rest.proofs.Received.{some-none}
use Rattle.tl_bank_rest.proofs.away.evict.Goals as goal

pub unreachable-requires : goal.unreachable-requires
unreachable-requires c =
    let lawful : IsLawful c.args.bank.now.geometry =
    subst (λ (g : Numbers). IsLawful g) c.geometry.ensures c.clients-clients.ensures.lawful in
    some-none _ _ c.in-Err.ensures.refused
    (sends-away c.args.bank.now c.args.block c.requires.quiet lawful c.requires.at_home)
