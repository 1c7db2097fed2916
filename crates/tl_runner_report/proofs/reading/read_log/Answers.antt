use Rattle.std.proofs.Common.{ℕ, get_or, refl, ◌∙◌, sym, subst, arith}
use Rattle.std.proofs.lemmas.Bool.{false≢true, iff_false}
use Rattle.std.proofs.lemmas.List.Elements.{AllWithin-more, at_read}
use Rattle.tl_protocol.specs.declared.event.Event.{Event}
use Rattle.tl_script.specs.Commands.{commands as commands_in}
use Rattle.tl_protocol.specs.OneMemory.{access_of}
use Rattle.tl_rules.specs.Certified.{accesses_of}
use Rattle.tl_runner_report.specs.Carried.{HasCommand}
use Rattle.tl_runner_report.specs.Loops.{AreOwed, bytes_on, with_accesses}
use Rattle.tl_runner_report.proofs.Compared.{all_within, count_end, counted_more, length_lists, still_owed}
use Rattle.tl_runner_report.proofs.Filling.{with_step, with_end}
use Rattle.tl_runner_report.proofs.reading.read_log.Goals as goal

pub returns-then-not-read_event-clause-exact : goal.returns-then-not-read_event-clause-exact
returns-then-not-read_event-clause-exact c =
    let i = c.loop-event.event-index in
    let commands = commands_in c.args.commands.now in
    let lt = c.loop-event-test.true in (
      λ f. absurd (false≢true f),
      λ both.
          let has : HasCommand commands c.event-item.result (access_of c.event-item.result) =
          subst (λ (e : Event). HasCommand commands e (access_of e)) (sym c.event-item.is) (both.0 i c.event-item.result (omega (arith, lt))) in
          absurd (iff_false c.read_event.ensures.exact c.if-not-read_event.true (
            has,
            still_owed commands c.args.owed.now c.loop-event.owed c.args.log.now i c.event-item.result (omega (arith, lt)) c.event-item.is has c.loop-event.invariant.counted
                (subst (λ (n : ℕ). AreOwed n c.args.owed.now (accesses_of c.args.log.now)) (sym (length_lists c.args.commands.now)) both.1),
          )),
    )

pub loop-event-preserved : goal.loop-event-preserved
loop-event-preserved c =
    let P = λ (e : Event). HasCommand (commands_in c.args.commands.now) e (access_of e) in
    let i = c.loop-event.event-index in
    let yes = c.if-not-read_event.false in record {
      each = AllWithin-more P c.args.log.now 0 i c.loop-event.invariant.each
          (at_read c.args.log.now P i c.event-item.result (omega arith) c.event-item.is (c.read_event.ensures.exact.0 yes).0);
      counted = λ client.
          counted_more client (get_or c.loop-event.owed client 0) (get_or c.read_event.new.owed client 0) (get_or c.args.owed.now client 0) c.args.log.now i c.event-item.result (omega arith) c.event-item.is
          (c.read_event.ensures.counted yes client) (c.loop-event.invariant.counted client);
      commands = c.read_event.ensures.commands yes ∙ c.loop-event.invariant.commands;
      bytes = with_step (bytes_on c.loop-event.all.items) (bytes_on c.read_event.new.all.items) (with_accesses (bytes_on c.args.all.now.items) (accesses_of c.args.log.now)) c.args.log.now i c.event-item.result (omega arith) c.event-item.is
          (c.read_event.ensures.bytes yes) c.loop-event.invariant.bytes;
    }

pub returns : goal.returns
returns c =
    let P = λ (e : Event). HasCommand (commands_in c.args.commands.now) e (access_of e) in
    let log = c.args.log.now in
    let i = c.loop-event.event-index in
    let past = c.loop-event-test.false in record {
      exact = (
        λ _. (
          all_within P log i past c.loop-event.invariant.each,
          λ client _. let sum = c.loop-event.invariant.counted client in let none = count_end client log i past in omega (arith, sum, none),
        ),
        λ _. refl,
      );
      counted = λ _ client. let sum = c.loop-event.invariant.counted client in let none = count_end client log i past in omega (arith, sum, none);
      commands = λ _. c.loop-event.invariant.commands;
      bytes = λ _.
          with_end (bytes_on c.loop-event.all.items) (with_accesses (bytes_on c.args.all.now.items) (accesses_of log)) log i past c.loop-event.invariant.bytes;
    }
