use Rattle.std.proofs.Common.{◌≡◌, List, IfOk, length, sym, subst}
use Rattle.std.specs.List.{refill}
use Rattle.tl_protocol.specs.declared.event.Event.{Event}
use Rattle.tl_bank_spec.specs.Share.{ShareView}
use Rattle.tl_bank_rest.specs.Shares.{AreShares}
use Rattle.tl_trace.specs.NetworkState.{SharedBankState}
use Rattle.tl_trace.specs.Rests.{Takes}
use Rattle.tl_trace.proofs.Shares.{only-short, rest-shares, rest-takes, some-left}
use Rattle.tl_trace.proofs.shared_bank.SharedBank.flush.Goals as goal

-- the shares are back in their place, and still the clients'
pub invariant_of-self : goal.invariant_of-self
invariant_of-self c =
    let old : SharedBankState = record { bank = c.self.inside.bank; shares = c.self.inside.shares.items } in (
      some-left old.shares c.flush.new.shares c.self.invariant.0,
      rest-shares old c.flush.new.bank c.deref_mut.result.now c.flush.new.shares c.self.invariant.1 c.deref_mut.ensures.value
          c.flush.ensures.received c.flush.ensures.shares,
    )

-- what was received
pub returns-clause-takes : goal.returns-clause-takes
returns-clause-takes c =
    let old : SharedBankState = record { bank = c.self.inside.bank; shares = c.self.inside.shares.items } in
    let new : SharedBankState = record {
      bank = c.flush.new.bank;
      shares = refill (length old.shares) old.shares c.flush.new.shares;
    } in
    subst
    (λ (s : SharedBankState). (events : List Event) × Takes s new events × IfOk c.flush.result (λ count. length events ≡ count))
    c.self.view_is
    (rest-takes old c.flush.new.bank c.deref_mut.result.now c.flush.new.shares c.flush.result c.self.invariant.1 c.deref_mut.ensures.value
    c.flush.ensures.received c.flush.ensures.count c.flush.ensures.shares)

-- no share is refused
pub returns-clause-short : goal.returns-clause-short
returns-clause-short c =
    only-short c.self.inside.bank c.deref_mut.result.now _ c.flush.result
    (subst (λ (xs : List ShareView). AreShares c.self.inside.bank xs) (sym c.deref_mut.ensures.value) c.self.invariant.1)
    c.flush.ensures.refused
