use Rattle.std.proofs.Common.{ap, ◌∙◌, subst}
use Rattle.tl_script.specs.Commands.{commands as commands_in}
use Rattle.tl_rules.specs.Certified.{all_accesses, events_of}
use Rattle.tl_runner_report.specs.Loops.{with_accesses}
use Rattle.tl_runner_report.specs.Conclusion.{ShowsAll}
use Rattle.tl_runner_report.proofs.Compared.{length_lists}
use Rattle.tl_runner_report.proofs.Reported.{shows_all}
use Rattle.tl_runner_report.proofs.conclusion.all_lines.Goals as goal

pub returns-else-not-read_logs-clause-some : goal.returns-else-not-read_logs-clause-some
returns-else-not-read_logs-clause-some c =
    let commands = commands_in c.args.commands.now in
    let logs = events_of c.args.logs.now in
    let yes = c.if-not-read_logs.false in
    let carried = c.read_logs.ensures.exact.0 yes in (
      carried,
      subst (ShowsAll commands logs c.read_logs.new.all.items) (length_lists c.args.commands.now)
          (shows_all commands logs c.read_logs.new.all.items c.requires.distinct carried.0
          (c.read_logs.ensures.commands yes ∙ c.in-Ok.ensures.commands)
          (c.read_logs.ensures.bytes yes ∙ ap (λ bytes. with_accesses bytes (all_accesses logs)) c.in-Ok.ensures.bytes)),
    )
