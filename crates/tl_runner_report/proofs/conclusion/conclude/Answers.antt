use Rattle.std.proofs.Common.{Err, rules, ap, ◌≡◌, ◌∙◌, refl}
use Rattle.tl_rules.specs.Certified.{events_of, IsCertified}
use Rattle.tl_runner_report.specs.Banks.{logs_in}
use Rattle.tl_runner_report.specs.Conclusion.{AreMatched, AreAllShares}
use Rattle.tl_runner_report.specs.declared.error.RunError.TheVariants.{Memory}
use Rattle.tl_runner_report.proofs.Reported.{all_distinct}
use Rattle.tl_runner_report.proofs.Concluded.{carried, is_ordered, memory_is_other, shown_moved}
use Rattle.tl_runner_report.proofs.ScriptBanks.{all_whole}
use Rattle.tl_runner_report.proofs.conclusion.conclude.Goals as goal

pub logs_of-lists-requires-clause-whole : goal.logs_of-lists-requires-clause-whole
logs_of-lists-requires-clause-whole c =
    all_whole c.args.script.now c.args.banks.now (c.are_banks_of.ensures.0 c.if-not-are_banks_of.false)

pub all_lines-requires-clause-distinct : goal.all_lines-requires-clause-distinct
all_lines-requires-clause-distinct c =
    let certified : IsCertified (events_of c.as_slice-logs.result.now) = search rules in
    all_distinct (events_of c.as_slice-logs.result.now) certified

pub returns-in_err-clients-clause-not_ordered : goal.returns-in_err-clients-clause-not_ordered
returns-in_err-clients-clause-not_ordered c =
    let m : AreMatched c.args.script.now c.args.banks.now = search rules in
    let is : c.from_residual.result ≡ Err Memory = search rules in
    is_ordered c.args.script.now c.args.banks.now c.args.shares.now c.from_residual.result m (memory_is_other c.from_residual.result is)

pub returns-in_err-lines-clause-not_ordered : goal.returns-in_err-lines-clause-not_ordered
returns-in_err-lines-clause-not_ordered c =
    let m : AreMatched c.args.script.now c.args.banks.now = search rules in
    let is : c.from_residual-in_err-lines.result ≡ Err Memory = search rules in
    is_ordered c.args.script.now c.args.banks.now c.args.shares.now c.from_residual-in_err-lines.result m (memory_is_other c.from_residual-in_err-lines.result is)

pub returns-clause-not_ordered : goal.returns-clause-not_ordered
returns-clause-not_ordered c =
    let m : AreMatched c.args.script.now c.args.banks.now = search rules in (λ p. absurd (cc), λ n. absurd (n.1 m))

pub returns-in_default-2-clause-not_ordered : goal.returns-in_default-2-clause-not_ordered
returns-in_default-2-clause-not_ordered c =
    let all : AreAllShares c.args.banks.now c.args.shares.now = search rules in
    let logs = ap events_of c.as_slice-logs.ensures.value ∙ c.logs_of-lists.ensures.logs in
    let never = rw c.in_default-2.is at c.in_ok-clients.ensures.none in (
      λ _. (
        all,
        λ m. never (carried c.args.script.now c.args.banks.now c.commands_of.result.now c.as_slice-logs.result.now c.commands_of.ensures.is logs m),
      ),
      λ _. refl,
    )

pub is_one_memory-requires-clause-shown : goal.is_one_memory-requires-clause-shown
is_one_memory-requires-clause-shown c =
    let logs = ap events_of c.as_slice-logs.ensures.value ∙ c.logs_of-lists.ensures.logs in
    let found = rw c.in-Some-2.is at c.in_ok-clients.ensures.some in
    shown_moved c.commands_of.result.now c.args.script.now.commands.items (events_of c.as_slice-logs.result.now) (logs_in c.args.banks.now) c.in-Some-2.clients.items c.as_slice-2.result.now
    c.commands_of.ensures.is logs c.as_slice-2.ensures.value found.1
