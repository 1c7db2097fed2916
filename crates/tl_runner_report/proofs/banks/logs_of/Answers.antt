use Rattle.std.proofs.Common.{drop, ap, ◌∙◌, sym, subst, arith}
use Rattle.std.proofs.lemmas.List.Elements.{AllWithin-more, at_read}
use Rattle.tl_rules.specs.Certified.{events_of}
use Rattle.tl_runner_report.specs.Banks.{HasRun, IsWhole}
use Rattle.tl_runner_report.proofs.ScriptBanks.{log_pushed}
use Rattle.tl_runner_report.proofs.banks.logs_of.Goals as goal

pub loop-bank-preserved : goal.loop-bank-preserved
loop-bank-preserved c =
    let i = c.loop-bank.bank-index in (
      ap events_of c.push.ensures.items
          ∙ log_pushed c.args.banks.now i c.bank-item.result c.loop-bank.logs.items c.log.result (omega arith) c.bank-item.is c.loop-bank.invariant.0
          (c.log.ensures.is ∙ ap (λ n. drop n c.bank-item.result.log) (subst IsWhole (sym c.bank-item.is) (c.requires.whole i c.bank-item.result (omega arith)))),
      omega (arith, c.push.ensures.len, c.loop-bank.invariant.1),
      AllWithin-more HasRun c.args.banks.now 0 i c.loop-bank.invariant.2
          (at_read c.args.banks.now HasRun i c.bank-item.result (omega arith) c.bank-item.is (c.log.ensures.run, c.log.ensures.own)),
    )
