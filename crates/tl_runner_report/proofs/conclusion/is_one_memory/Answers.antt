use Rattle.std.proofs.Common.{arith}
use Rattle.tl_runner_report.proofs.Memory.{one_memory}
use Rattle.tl_runner_report.proofs.ScriptBanks.{all_whole, length_banks}
use Rattle.tl_runner_report.proofs.conclusion.is_one_memory.Goals as goal

pub returns : goal.returns
returns c =
    one_memory c.every_order.ensures.memory c.args.script.now c.args.banks.now c.args.clients.now c.requires.matched c.requires.shown
    c.logs_of-logs.ensures.runs

pub logs_of-logs-requires-clause-few : goal.logs_of-logs-requires-clause-few
logs_of-logs-requires-clause-few c = let few = c.requires.matched.certified.few in omega (arith, length_banks c.args.banks.now)

pub logs_of-logs-requires-clause-whole : goal.logs_of-logs-requires-clause-whole
logs_of-logs-requires-clause-whole c = all_whole c.args.script.now c.args.banks.now c.requires.matched.banks_of
