use Rattle.std.proofs.Common.{◌≡◌, List, IfOk, length, sym, subst}
use Rattle.std.specs.List.{refill}
use Rattle.tl_protocol.specs.declared.event.Event.{Event}
use Rattle.tl_bank_spec.specs.Share.{ShareView}
use Rattle.tl_bank_rest.specs.Shares.{AreShares}
use Rattle.tl_trace.specs.NetworkState.{SharedBankState}
use Rattle.tl_trace.specs.Rests.{Takes}
use Rattle.tl_trace.proofs.Shares.{only-short, rest-shares, rest-takes, some-left}
use Rattle.tl_trace.proofs.shared_bank.SharedBank.drain.Goals as goal

-- the shares are back in their place, and still the clients'
pub invariant_of-self : goal.invariant_of-self
invariant_of-self c =
    let old : SharedBankState = record { bank = c.self.inside.bank; shares = c.self.inside.shares.items } in (
      some-left old.shares c.drain.new.shares c.self.invariant.0,
      rest-shares old c.drain.new.bank c.deref_mut.result.now c.drain.new.shares c.self.invariant.1 c.deref_mut.ensures.value
          c.drain.ensures.received c.drain.ensures.shares,
    )

-- what was received
pub returns-clause-takes : goal.returns-clause-takes
returns-clause-takes c =
    let old : SharedBankState = record { bank = c.self.inside.bank; shares = c.self.inside.shares.items } in
    let new : SharedBankState = record {
      bank = c.drain.new.bank;
      shares = refill (length old.shares) old.shares c.drain.new.shares;
    } in
    subst
    (λ (s : SharedBankState). (events : List Event) × Takes s new events × IfOk c.drain.result (λ count. length events ≡ count))
    c.self.view_is
    (rest-takes old c.drain.new.bank c.deref_mut.result.now c.drain.new.shares c.drain.result c.self.invariant.1 c.deref_mut.ensures.value
    c.drain.ensures.received c.drain.ensures.count c.drain.ensures.shares)

-- no share is refused
pub returns-clause-short : goal.returns-clause-short
returns-clause-short c =
    only-short c.self.inside.bank c.deref_mut.result.now _ c.drain.result
    (subst (λ (xs : List ShareView). AreShares c.self.inside.bank xs) (sym c.deref_mut.ensures.value) c.self.invariant.1)
    c.drain.ensures.refused
