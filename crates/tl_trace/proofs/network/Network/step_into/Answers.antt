use Rattle.std.proofs.Common.{◌≡◌, ◌<◌, OnErr, OnOk, length, slice_index, ap, subst, arith}
use Rattle.tl_trace.specs.NetworkSteps.{IsStarvedNetwork, IsNetworkStep}
use Rattle.tl_trace.specs.NetworkState.{NetworkState}
use Rattle.tl_trace.proofs.Accesses.{step-network}
use Rattle.tl_trace.proofs.network.Network.step_into.Goals as goal

-- the bank that was asked and the clock that was set are back in their places
pub returns : goal.returns
returns c =
    let old : NetworkState = record {
      geometry = c.self.inside.geometry;
      shared_banks = c.self.inside.shared_banks.items;
      clocks = c.self.inside.clocks.items;
    } in
    let view : old ≡ c.args.self.now = c.self.view_is in
    let client = c.client_named-client.result in
    let inside : c.bank_asked-place.result < length old.shared_banks = omega (arith, c.bank_asked-place.ensures.inside, c.self.invariant) in
    let clock : c.clock-clock.result ≡ slice_index old.clocks client =
    cc (c.clock-clock.ensures, ap (λ (s : NetworkState). s.clocks) view) in
    let both = step-network c.ask-done.result c.args.index c.args.step.now old c.set_clock.new.self c.bank_asked-place.result client
    c.clock-clock.result c.ask-done.new.clock c.index_mut.result.now _ c.ask-done.new.self c.ask-done.new.answer c.bank_asked-place.ensures.is
    c.client_named-client.ensures inside clock c.index_mut.ensures.value c.ask-done.ensures.memory c.ask-done.ensures.answer
    c.set_clock.ensures in
    record {
      memory = subst (λ (s : NetworkState). OnErr c.ask-done.result (IsStarvedNetwork c.args.step.now s c.set_clock.new.self)) view both.0;
      answer =
          subst
          (λ (s : NetworkState). OnOk c.ask-done.result
          (IsNetworkStep c.args.index c.args.step.now s c.set_clock.new.self c.ask-done.new.answer)) view both.1;
    }
