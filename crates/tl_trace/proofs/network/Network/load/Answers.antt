use Rattle.std.proofs.Common.{◌≡◌, ◌<◌, IfErr, IfOk, length, slice_index, refl, ap, subst, ◌∙◌, arith}
use Rattle.tl_script_words.specs.declared.step.Step.{Step}
use Rattle.tl_script_words.specs.declared.step.Step.TheVariants as step
use Rattle.tl_text.specs.declared.answer.Answer.TheVariants.{Loaded}
use Rattle.tl_trace.specs.NetworkSteps.{IsRefusedNetwork, IsNetworkStep}
use Rattle.tl_trace.specs.NetworkState.{NetworkState, bank_asked, bank_of_block}
use Rattle.tl_trace.proofs.Accesses.{access-network}
use Rattle.tl_trace.proofs.network.Network.load.Goals as goal

-- the bank that was asked and the clock that was set are back in their places
pub returns : goal.returns
returns c =
    let asked : Step = step.Load c.args.client c.args.address c.args.len in
    let old : NetworkState = record {
      geometry = c.self.inside.geometry;
      shared_banks = c.self.inside.shared_banks.items;
      clocks = c.self.inside.clocks.items;
    } in
    let view : old ≡ c.args.self.now = c.self.view_is in
    let inside : c.bank_of_block-place.result < length old.shared_banks = omega (arith, c.bank_of_block-place.ensures.inside, c.self.invariant) in
    let at : c.bank_of_block-place.result ≡ bank_asked old.geometry asked =
    c.bank_of_block-place.ensures.is ∙ ap (λ n. bank_of_block old.geometry n) c.block_at.ensures in
    let clock : c.clock-clock.result ≡ slice_index old.clocks c.args.client =
    cc (c.clock-clock.ensures, ap (λ (s : NetworkState). s.clocks) view) in
    let both = access-network c.load-loaded.result (λ bytes. Loaded bytes) c.args.index asked old c.set_clock.new.self c.bank_of_block-place.result
    c.args.client c.clock-clock.result c.load-loaded.new.clock c.index_mut.result.now _ c.load-loaded.new.self at refl inside clock
    c.index_mut.ensures.value c.load-loaded.ensures.refused c.load-loaded.ensures.done c.set_clock.ensures in
    record {
      refused = subst (λ (s : NetworkState). IfErr c.load-loaded.result (IsRefusedNetwork c.args.index asked s c.set_clock.new.self)) view both.0;
      done =
          subst
          (λ (s : NetworkState). IfOk c.load-loaded.result (λ bytes. IsNetworkStep c.args.index asked s c.set_clock.new.self (Loaded bytes))) view both.1;
    }
