use Rattle.std.proofs.Common.{◌≡◌, ℕ, ◌<◌, ◌≤◌, count_by, get_or, length}
use Rattle.tl_types.specs.declared.limits.TheConstants.{CLIENTS}
use Rattle.tl_script.specs.Commands.{commands as commands_in}
use Rattle.tl_runner_report.specs.Carried.{commands_of, makes_access}
use Rattle.tl_runner_report.proofs.owed.all_owed.Given as goal

abbrev pub invariant-loop-client : goal.invariant-loop-client
invariant-loop-client l =
    ((client : ℕ) → client < l.client → get_or l.owed client 0 ≡ count_by makes_access (commands_of (commands_in l.commands) client))
    × ((client : ℕ) → l.client ≤ client → get_or l.owed client 0 ≡ 0)
    × (length l.owed ≡ CLIENTS)
