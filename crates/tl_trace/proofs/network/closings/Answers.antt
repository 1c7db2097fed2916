use Rattle.std.proofs.Common.{subst}
use Rattle.tl_bank_spec.specs.Coherent.{IsCoherent}
use Rattle.tl_bank_spec.specs.View.{View}
use Rattle.tl_trace.specs.Closing.{Closes}
use Rattle.tl_trace.proofs.ClosingLemmas.{Close-more, coherent-more}
use Rattle.tl_trace.proofs.network.closings.Goals as goal

-- the closing of one more bank, which is coherent
pub loop-shared_bank-preserved : goal.loop-shared_bank-preserved
loop-shared_bank-preserved c = record {
  closes =
      Close-more c.args.shared_banks.now c.loop-shared_bank.shared_bank-index c.shared_bank-item.result c.loop-shared_bank.closings.items c.push.new.self.items
      c.in_ok-closing.field-0 c.loop-shared_bank-test.true c.shared_bank-item.is c.loop-shared_bank.invariant.closes
      (subst (λ (v : View). Closes v c.in_ok-closing.field-0) c.bank.ensures c.in_ok-closing.ensures.closes)
      c.in_ok-push.ensures.items;
  coherent =
      coherent-more c.args.shared_banks.now c.loop-shared_bank.shared_bank-index c.shared_bank-item.result c.loop-shared_bank-test.true c.shared_bank-item.is
      c.loop-shared_bank.invariant.coherent
      (subst (λ (v : View). IsCoherent v) c.bank.ensures c.in_ok-closing.ensures.coherent);
}
