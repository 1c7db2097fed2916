use Rattle.std.proofs.Common.{◌≡◌, ◌<◌, IfErr, IfOk, length, sym, subst}
use Rattle.tl_script_words.specs.declared.step.Step.{Step}
use Rattle.tl_script_words.specs.declared.step.Step.TheVariants as step
use Rattle.tl_text.specs.declared.answer.Answer.TheVariants.{Loaded}
use Rattle.tl_trace.specs.NetworkSteps.{IsRefusedAt, IsStepAt}
use Rattle.tl_trace.specs.NetworkState.{SharedBankState, share_place}
use Rattle.tl_trace.proofs.Accesses.{load-kept}
use Rattle.tl_trace.proofs.Shares.{load-shares}
use Rattle.tl_trace.proofs.shared_bank.SharedBank.load.Goals as goal

-- the share is as it was
pub returns : goal.returns
returns c =
    let asked : Step = step.Load c.args.client c.args.address c.args.len in
    let old : SharedBankState = record { bank = c.self.inside.bank; shares = c.self.inside.shares.items } in
    let view : old ≡ c.args.self.now = c.self.view_is in
    let place = c.share_place-place.result in
    let at : place ≡ share_place old.shares c.args.client =
    subst (λ (s : SharedBankState). place ≡ share_place s.shares c.args.client) (sym view) c.share_place-place.ensures.is in
    let inside : place < length old.shares =
    subst (λ (s : SharedBankState). place < length s.shares) (sym view) c.share_place-place.ensures.inside in
    let new : SharedBankState = record { bank = c.load_bytes-loaded.new.bank; shares = old.shares } in
    let both = load-kept c.load_bytes-loaded.result c.args.index c.args.client c.args.address c.args.len old c.load_bytes-loaded.new.bank c.args.clock.now c.load_bytes-loaded.new.clock place at inside c.load_bytes-loaded.ensures.refused
    c.load_bytes-loaded.ensures.unchanged c.load_bytes-loaded.ensures.permitted c.load_bytes-loaded.ensures.does in
    record {
      refused =
          subst (λ (s : SharedBankState). IfErr c.load_bytes-loaded.result (IsRefusedAt c.args.index asked s new c.args.clock.now c.load_bytes-loaded.new.clock))
          view both.0;
      done =
          subst
          (λ (s : SharedBankState). IfOk c.load_bytes-loaded.result
          (λ bytes. IsStepAt c.args.index asked s new c.args.clock.now c.load_bytes-loaded.new.clock (Loaded bytes))) view both.1;
    }

-- and is still its client's own
pub invariant_of-self : goal.invariant_of-self
invariant_of-self c = (
  c.self.invariant.0,
  load-shares c.load_bytes-loaded.result c.args.index c.args.client c.args.address c.args.len c.args.clock.now c.load_bytes-loaded.new.clock
      c.self.inside.bank c.load_bytes-loaded.new.bank c.self.inside.shares.items c.load_bytes-loaded.ensures.unchanged
      c.load_bytes-loaded.ensures.does c.log-log.ensures.run c.self.invariant.1,
)
