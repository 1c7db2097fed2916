use Rattle.std.proofs.Common.{◌≡◌, ◌<◌, length, slice_index, subst, arith}
use Rattle.tl_script_words.specs.declared.step.Step.{Step}
use Rattle.tl_script_words.specs.declared.step.Step.TheVariants as step
use Rattle.tl_script_words.specs.declared.step.TicketCall.TheVariants.{AnswerProbe}
use Rattle.tl_trace.specs.NetworkState.{NetworkState}
use Rattle.tl_trace.specs.Would.{WouldComeTo}
use Rattle.tl_trace.proofs.Foreseen.{come-to}
use Rattle.tl_trace.proofs.network.Network.would_release.Goals as goal

-- what the bank foresees is foreseen of all
pub returns : goal.returns
returns c =
    let asked : Step = step.Release c.args.client c.args.block c.args.prune in
    let old : NetworkState = record {
      geometry = c.self.inside.geometry;
      shared_banks = c.self.inside.shared_banks.items;
      clocks = c.self.inside.clocks.items;
    } in
    let inside : c.bank_of_block-place.result < length old.shared_banks = omega (arith, c.bank_of_block-place.ensures.inside, c.self.invariant) in
    subst (λ (s : NetworkState). WouldComeTo s asked c.would_release.result) c.self.view_is
    (come-to old asked c.would_release.result c.bank_of_block-place.result c.index.result.now c.bank_of_block-place.ensures.is inside c.index.ensures c.would_release.ensures)
