use Rattle.std.proofs.Common.{ap, sym, ◌∙◌}
use Rattle.tl_bank_spec.specs.Share.{first_shares}
use Rattle.tl_bank_spec.specs.View.{View}
use Rattle.tl_trace.proofs.Resets.{some-shares}
use Rattle.tl_trace.proofs.Shares.{fresh-shares}
use Rattle.tl_trace.proofs.shared_bank.SharedBank.new.Goals as goal

-- there is a client, and so a share; and nobody has a copy
pub invariant_of-result : goal.invariant_of-result
invariant_of-result c = (
  some-shares c.args.number c.args.geometry.clients c.in_ok-bank.shares.items c.in_ok-bank.ensures.shares
      c.clients-clients.ensures.lawful.clients.least,
  fresh-shares c.in_ok-bank.bank c.in_ok-bank.shares.items c.args.number (ap (λ (v : View). v.number) c.in_ok-bank.ensures.bank)
      (ap (λ (v : View). v.log) c.in_ok-bank.ensures.bank)
      (c.in_ok-bank.ensures.shares
      ∙ ap (λ (v : View). first_shares c.args.number v.geometry.clients) (sym c.in_ok-bank.ensures.bank)),
)
