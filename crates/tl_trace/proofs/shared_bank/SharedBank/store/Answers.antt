use Rattle.std.proofs.Common.{◌≡◌, ◌<◌, IfErr, IfOk, length, sym, subst}
use Rattle.tl_script_words.specs.declared.step.Step.{Step}
use Rattle.tl_script_words.specs.declared.step.Step.TheVariants as step
use Rattle.tl_text.specs.declared.answer.Answer.TheVariants.{Done}
use Rattle.tl_trace.specs.NetworkSteps.{IsRefusedAt, IsStepAt}
use Rattle.tl_trace.specs.NetworkState.{SharedBankState, share_place}
use Rattle.tl_trace.proofs.Accesses.{store-kept}
use Rattle.tl_trace.proofs.Shares.{store-shares}
use Rattle.tl_trace.proofs.shared_bank.SharedBank.store.Goals as goal

-- the share is as it was
pub returns : goal.returns
returns c =
    let asked : Step = step.Store c.args.client c.args.address c.args.bytes.now in
    let old : SharedBankState = record { bank = c.self.inside.bank; shares = c.self.inside.shares.items } in
    let view : old ≡ c.args.self.now = c.self.view_is in
    let place = c.share_place-place.result in
    let at : place ≡ share_place old.shares c.args.client =
    subst (λ (s : SharedBankState). place ≡ share_place s.shares c.args.client) (sym view) c.share_place-place.ensures.is in
    let inside : place < length old.shares =
    subst (λ (s : SharedBankState). place < length s.shares) (sym view) c.share_place-place.ensures.inside in
    let new : SharedBankState = record { bank = c.store_bytes-stored.new.bank; shares = old.shares } in
    let both = store-kept c.store_bytes-stored.result c.args.index c.args.client c.args.address c.args.bytes.now old c.store_bytes-stored.new.bank c.args.clock.now c.store_bytes-stored.new.clock place at inside c.store_bytes-stored.ensures.refused
    c.store_bytes-stored.ensures.unchanged c.store_bytes-stored.ensures.permitted c.store_bytes-stored.ensures.does in
    record {
      refused =
          subst (λ (s : SharedBankState). IfErr c.store_bytes-stored.result (IsRefusedAt c.args.index asked s new c.args.clock.now c.store_bytes-stored.new.clock))
          view both.0;
      done =
          subst
          (λ (s : SharedBankState). IfOk c.store_bytes-stored.result
          (λ _. IsStepAt c.args.index asked s new c.args.clock.now c.store_bytes-stored.new.clock Done)) view both.1;
    }

-- and is still its client's own
pub invariant_of-self : goal.invariant_of-self
invariant_of-self c = (
  c.self.invariant.0,
  store-shares c.store_bytes-stored.result c.args.index c.args.client c.args.address c.args.clock.now c.store_bytes-stored.new.clock
      c.args.bytes.now c.self.inside.bank c.store_bytes-stored.new.bank c.self.inside.shares.items c.store_bytes-stored.ensures.unchanged
      c.store_bytes-stored.ensures.does c.log-log.ensures.run c.self.invariant.1,
)
