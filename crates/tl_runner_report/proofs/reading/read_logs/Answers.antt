use Rattle.std.proofs.Common.{◌<◌, ◌≤◌, ⊎_elim, List, [], All, length, ◌∙◌, subst, arith}
use Rattle.std.proofs.lemmas.Bool.{false≢true, cases_lt, iff_false}
use Rattle.std.proofs.lemmas.List.Elements.{AllWithin-more}
use Rattle.tl_protocol.specs.declared.event.Event.{Event}
use Rattle.tl_script.specs.Commands.{commands as commands_in}
use Rattle.tl_protocol.specs.OneMemory.{access_of}
use Rattle.tl_rules.specs.Certified.{accesses_of, all_accesses, events_of}
use Rattle.tl_rules.proofs.Cursors.{read_log as log_read, length_logs}
use Rattle.tl_runner_report.specs.Carried.{HasCommand}
use Rattle.tl_runner_report.specs.Loops.{AreOwed, bytes_on, with_accesses}
use Rattle.tl_runner_report.proofs.Compared.{all_within, all_zero, length_lists, log_at_index, logs_end, logs_step, none_owed, zero_at}
use Rattle.tl_runner_report.proofs.Filling.{with_log, with_logs_end}
use Rattle.tl_runner_report.proofs.reading.read_logs.Goals as goal

pub returns-then-not-read_log-clause-exact : goal.returns-then-not-read_log-clause-exact
returns-then-not-read_log-clause-exact c =
    let i = c.loop-log.log-index in
    let logs = c.args.logs.now in
    let log = c.log-item.result.now in
    let lt = c.loop-log-test.true in
    let known : i < length (events_of logs) = (let long = length_logs logs in omega (arith, long, lt)) in
    let Has = λ (es : List Event). All (λ e. HasCommand (commands_in c.args.commands.now) e (access_of e)) es in (
      λ f. absurd (false≢true f),
      λ both.
          let has : Has log = subst Has (log_read logs i c.log-item.result (omega (arith, lt)) c.log-item.is) (both.0 i [] known) in
          let owed : AreOwed (length c.args.commands.now) c.loop-log.owed (accesses_of log) =
          λ client there.
          let sum = c.loop-log.invariant.counted client in
          let many = both.1 client (let long = length_lists c.args.commands.now in omega (arith, long, there)) in
          let step = logs_step client logs i c.log-item.result (omega (arith, lt)) c.log-item.is in
          omega (arith, sum, many, step) in
          absurd (iff_false c.read_log.ensures.exact c.if-not-read_log.true (has, owed)),
    )

pub loop-log-preserved : goal.loop-log-preserved
loop-log-preserved c =
    let i = c.loop-log.log-index in
    let logs = c.args.logs.now in
    let P = λ (log : List Event). All (λ e. HasCommand (commands_in c.args.commands.now) e (access_of e)) log in
    let yes = c.if-not-read_log.false in
    let whole = with_accesses (bytes_on c.args.all.now.items) (all_accesses (events_of logs)) in record {
      each = AllWithin-more P (events_of logs) 0 i c.loop-log.invariant.each
          (log_at_index P logs i c.log-item.result (omega arith) c.log-item.is (c.read_log.ensures.exact.0 yes).0);
      counted = λ client.
          let sum = c.loop-log.invariant.counted client in
          let step = logs_step client logs i c.log-item.result (omega arith) c.log-item.is in
          let own = c.read_log.ensures.counted yes client in
          omega (arith, sum, step, own);
      commands = c.read_log.ensures.commands yes ∙ c.loop-log.invariant.commands;
      bytes = with_log (bytes_on c.loop-log.all.items) (bytes_on c.read_log.new.all.items) whole logs i c.log-item.result (omega arith) c.log-item.is
          (c.read_log.ensures.bytes yes) c.loop-log.invariant.bytes;
    }

pub returns-clause-exact : goal.returns-clause-exact
returns-clause-exact c =
    let i = c.loop-log.log-index in
    let logs = c.args.logs.now in
    let past = c.loop-log-test.false in
    let P = λ (log : List Event). All (λ e. HasCommand (commands_in c.args.commands.now) e (access_of e)) log in
    let long = length_logs logs in (
      λ yes. (
        all_within P (events_of logs) i (omega (arith, long, past)) c.loop-log.invariant.each,
        λ client there.
            let sum = c.loop-log.invariant.counted client in
            let none = logs_end client logs i past in
            let zero = zero_at c.loop-log.owed (c.is_nothing.ensures.0 yes) client in
            omega (arith, sum, none, zero),
      ),
      λ both.
          c.is_nothing.ensures.1
          (all_zero c.loop-log.owed
          (λ client.
          let sum = c.loop-log.invariant.counted client in
          let none = logs_end client logs i past in
          ⊎_elim
          (λ (there : client < length (commands_in c.args.commands.now)). let many = both.1 client there in omega (arith, sum, none, many))
          (λ (le : length (commands_in c.args.commands.now) ≤ client). let nothing = none_owed (commands_in c.args.commands.now) client le in omega (arith, sum, none, nothing))
          (cases_lt client (length (commands_in c.args.commands.now))))),
    )

pub returns-clause-bytes : goal.returns-clause-bytes
returns-clause-bytes c =
    λ _.
    with_logs_end (bytes_on c.loop-log.all.items) (with_accesses (bytes_on c.args.all.now.items) (all_accesses (events_of c.args.logs.now))) c.args.logs.now c.loop-log.log-index c.loop-log-test.false c.loop-log.invariant.bytes
