use Rattle.tl_trace.proofs.Shares.{forgotten-shares}
use Rattle.tl_trace.proofs.shared_bank.SharedBank.forget.Goals as goal

-- the shares are still the clients' own
pub invariant_of-self : goal.invariant_of-self
invariant_of-self c = (
  c.self.invariant.0,
  forgotten-shares c.self.inside.bank c.forget.new.self c.self.inside.shares.items c.forget.ensures c.self.invariant.1,
)
