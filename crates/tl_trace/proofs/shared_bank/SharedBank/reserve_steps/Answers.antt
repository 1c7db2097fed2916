use Rattle.std.proofs.Common.{ap, subst}
use Rattle.tl_bank_spec.specs.View.{View}
use Rattle.tl_trace.specs.NetworkState.{HasRoom, SharedBankState}
use Rattle.tl_trace.proofs.Answered.{if-done}
use Rattle.tl_trace.proofs.Shares.{room-shares}
use Rattle.tl_trace.proofs.shared_bank.SharedBank.reserve_steps.Goals as goal

-- the bank has the room
pub returns-clause-room : goal.returns-clause-room
returns-clause-room c =
    let new : SharedBankState = record { bank = c.reserve_steps.new.self; shares = c.self.inside.shares.items } in
    if-done c.reserve_steps.result _ _
    (λ enough. subst (λ (s : SharedBankState). HasRoom c.args.count s new) c.self.view_is
    (record {
      room = c.reserve_steps.new.self.room;
      enough = enough;
      grows = c.reserve_steps.ensures.grows;
      is = ap (λ (b : View). record { bank = b; shares = c.self.inside.shares.items }) c.reserve_steps.ensures.same;
    })) c.reserve_steps.ensures.room

-- the shares are still the clients' own
pub invariant_of-self : goal.invariant_of-self
invariant_of-self c = (
  c.self.invariant.0,
  room-shares c.self.inside.bank c.reserve_steps.new.self c.self.inside.shares.items c.reserve_steps.new.self.room
      c.reserve_steps.ensures.same c.self.invariant.1,
)
