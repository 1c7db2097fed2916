use Rattle.std.proofs.Common.{◌≡◌, ℕ, ◌+◌, All, count_by, drop, get_or}
use Rattle.std.specs.List.{AllWithin}
use Rattle.tl_script.specs.Commands.{commands as commands_in}
use Rattle.tl_protocol.specs.OneMemory.{access_of}
use Rattle.tl_rules.specs.Certified.{all_accesses, events_of}
use Rattle.tl_runner_report.specs.Carried.{HasCommand, commands_of, makes_access}
use Rattle.tl_runner_report.specs.Loops.{bytes_on, commands_on, count_of, with_accesses}
use Rattle.tl_runner_report.proofs.reading.read_logs.Given as goal

abbrev pub invariant-loop-log : goal.invariant-loop-log
invariant-loop-log l = record {
  each : AllWithin (λ log. All (λ e. HasCommand (commands_in l.commands) e (access_of e)) log) (events_of l.logs) 0 l.log-index;
  counted : (client : ℕ) → get_or l.owed client 0 + count_of client (all_accesses (events_of l.logs)) ≡ count_by makes_access (commands_of (commands_in l.commands) client) + count_of client (all_accesses (drop l.log-index (events_of l.logs)));
  commands : commands_on l.all.items ≡ commands_on l.fn.all.items;
  bytes : with_accesses (bytes_on l.all.items) (all_accesses (drop l.log-index (events_of l.logs))) ≡ with_accesses (bytes_on l.fn.all.items) (all_accesses (events_of l.logs));
}
