use Rattle.std.proofs.Common.{◌≡◌, ◌<◌, OnErr, OnOk, length, set, sym, ◌∙◌, ap, subst, refl}
use Rattle.std.specs.List.{refill}
use Rattle.tl_trace.specs.NetworkSteps.{IsStarvedAt, IsStepAt}
use Rattle.tl_trace.specs.NetworkState.{SharedBankState, client_named, share_place}
use Rattle.tl_trace.proofs.Answered.{if-done, if-starved}
use Rattle.tl_trace.proofs.Places.{asked-at, starved-at}
use Rattle.tl_trace.proofs.Shares.{either-way, some-left, starved-shares, step-shares}
use Rattle.tl_bank_rest.specs.Shares.{AreShares}
use Rattle.tl_trace.proofs.shared_bank.SharedBank.ask.Goals as goal

-- the share that was used is back in its place
pub returns : goal.returns
returns c =
    let old : SharedBankState = record { bank = c.self.inside.bank; shares = c.self.inside.shares.items } in
    let view : old ≡ c.args.self.now = c.self.view_is in
    let place = c.share_place-place.result in
    let at : place ≡ share_place old.shares (client_named c.args.step.now) =
    subst (λ (s : SharedBankState). place ≡ share_place s.shares (client_named c.args.step.now)) (sym view)
    (c.share_place-place.ensures.is ∙ ap (λ n. share_place c.args.self.now.shares n) c.client_named.ensures) in
    let inside : place < length old.shares =
    subst (λ (s : SharedBankState). place < length s.shares) (sym view) c.share_place-place.ensures.inside in
    let new : SharedBankState = record {
      bank = c.act-done.new.bank;
      shares = refill (length old.shares) old.shares (set c.deref_mut.result.now place c.act-done.new.share);
    } in
    record {
      memory =
          subst (λ (s : SharedBankState). OnErr c.act-done.result (IsStarvedAt s new c.args.clock.now c.act-done.new.clock)) view
          (if-starved c.act-done.result _ _
          (λ starved.
          starved-at c.args.step.now old new c.args.clock.now c.act-done.new.clock place c.deref_mut.result.now _ c.act-done.new.share inside
          c.deref_mut.ensures.value refl starved) c.act-done.ensures.memory);
      answer =
          subst
          (λ (s : SharedBankState). OnOk c.act-done.result
          (IsStepAt c.args.index c.args.step.now s new c.args.clock.now c.act-done.new.clock c.act-done.new.answer)) view
          (if-done c.act-done.result _ _
          (λ acts.
          asked-at c.args.index c.args.step.now old new c.args.clock.now c.act-done.new.clock place c.deref_mut.result.now _ c.act-done.new.share
          c.act-done.new.answer at inside c.deref_mut.ensures.value refl acts) c.act-done.ensures.answer);
    }

-- and the shares are still the clients' own
pub invariant_of-self : goal.invariant_of-self
invariant_of-self c =
    let old : SharedBankState = record { bank = c.self.inside.bank; shares = c.self.inside.shares.items } in
    let view : old ≡ c.args.self.now = c.self.view_is in
    let place = c.share_place-place.result in
    let at : place ≡ share_place old.shares (client_named c.args.step.now) =
    subst (λ (s : SharedBankState). place ≡ share_place s.shares (client_named c.args.step.now)) (sym view)
    (c.share_place-place.ensures.is ∙ ap (λ n. share_place c.args.self.now.shares n) c.client_named.ensures) in
    let inside : place < length old.shares =
    subst (λ (s : SharedBankState). place < length s.shares) (sym view) c.share_place-place.ensures.inside in
    let new : SharedBankState = record {
      bank = c.act-done.new.bank;
      shares = refill (length old.shares) old.shares (set c.deref_mut.result.now place c.act-done.new.share);
    } in (
      some-left old.shares (set c.deref_mut.result.now place c.act-done.new.share) c.self.invariant.0,
      either-way c.act-done.result (AreShares new.bank new.shares)
          (if-starved c.act-done.result _ _
          (λ starved.
          starved-shares old new c.args.clock.now c.act-done.new.clock
          (starved-at c.args.step.now old new c.args.clock.now c.act-done.new.clock place c.deref_mut.result.now _ c.act-done.new.share inside
          c.deref_mut.ensures.value refl starved) c.self.invariant.1) c.act-done.ensures.memory)
          (if-done c.act-done.result _ _
          (λ acts.
          step-shares c.args.index c.args.step.now old new c.args.clock.now c.act-done.new.clock c.act-done.new.answer
          (asked-at c.args.index c.args.step.now old new c.args.clock.now c.act-done.new.clock place c.deref_mut.result.now _ c.act-done.new.share
          c.act-done.new.answer at inside c.deref_mut.ensures.value refl acts) c.log-log.ensures.run c.self.invariant.1)
          c.act-done.ensures.answer),
    )
