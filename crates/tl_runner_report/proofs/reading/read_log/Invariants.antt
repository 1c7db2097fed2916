use Rattle.std.proofs.Common.{◌≡◌, ℕ, ◌+◌, drop, get_or}
use Rattle.std.specs.List.{AllWithin}
use Rattle.tl_script.specs.Commands.{commands as commands_in}
use Rattle.tl_protocol.specs.OneMemory.{access_of}
use Rattle.tl_rules.specs.Certified.{accesses_of}
use Rattle.tl_runner_report.specs.Carried.{HasCommand}
use Rattle.tl_runner_report.specs.Loops.{bytes_on, commands_on, count_of, with_accesses}
use Rattle.tl_runner_report.proofs.reading.read_log.Given as goal

abbrev pub invariant-loop-event : goal.invariant-loop-event
invariant-loop-event l = record {
  each : AllWithin (λ e. HasCommand (commands_in l.commands) e (access_of e)) l.log 0 l.event-index;
  counted : (client : ℕ) → get_or l.owed client 0 + count_of client (accesses_of l.log) ≡ get_or l.fn.owed client 0 + count_of client (accesses_of (drop l.event-index l.log));
  commands : commands_on l.all.items ≡ commands_on l.fn.all.items;
  bytes : with_accesses (bytes_on l.all.items) (accesses_of (drop l.event-index l.log)) ≡ with_accesses (bytes_on l.fn.all.items) (accesses_of l.log);
}
