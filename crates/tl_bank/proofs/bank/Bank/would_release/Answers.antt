use Rattle.std.proofs.Common.{refl, sym, ap}
use Rattle.tl_types.specs.declared.channel.Channel.TheVariants.{C}
use Rattle.tl_types.specs.declared.message.Body.TheVariants.{Upward as b_Upward}
use Rattle.tl_types.specs.declared.message.Surrender.{Surrender}
use Rattle.tl_types.specs.declared.message.Upward.TheVariants.{Release}
use Rattle.tl_bank.proofs.bank.Bank.would_release.Goals as goal

-- what is given up is what the event would send
pub returns-clause-sends : goal.returns-clause-sends
returns-clause-sends c = record {
  post = record { client = c.args.client; channel = C; body = _ };
  sent = refl;
  says = ap (λ (given : Surrender). b_Upward (Release given)) (sym c.in_ok-given.ensures.given);
}
