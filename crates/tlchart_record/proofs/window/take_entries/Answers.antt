use Rattle.std.proofs.Common.{◌≡◌, Err, Some, refl, rules, ap, ◌∙◌, arith}
use Rattle.tlcheck_reader.specs.EntriesState.{EntriesState}
use Rattle.tlchart_record.specs.Window.{fault_of}
use Rattle.tlchart_record.proofs.Windows.{ended, given_more, is_window, no_entry, took_more, took_none}
use Rattle.tlchart_record.proofs.window.take_entries.Goals as goal

pub loop-taken-init : goal.loop-taken-init
loop-taken-init g c = record {
  same = λ e. refl;
  given = λ text head image a. record { entries = _; among = a; counted = refl };
  took = λ text head image a s. took_none text c.args.before (g.R.Read.remaining c.args.reader.now) c.args.entries head image c.args.window a s;
}

-- a line that cannot be read
pub returns-in_err-entry-clause-fault : goal.returns-in_err-entry-clause-fault
returns-in_err-entry-clause-fault g c = λ text head image a.
    let given = c.loop-taken.invariant.given text head image a in
    let is : c.from_residual.result ≡ Err (fault_of c.in_err-entry.field-0.0) = search rules in
    rw is (no_entry text c.args.count head image given.entries c.in_err-entry.field-0.0
    (c.in_err-entry.ensures {u = tt} (Some text) head image given.entries given.among)
    (omega (arith, given.counted, c.loop-taken-test.true)))

-- the end of the text
pub returns-in_default-clause-fault : goal.returns-in_default-clause-fault
returns-in_default-clause-fault g c = λ text head image a e.
    let given = c.loop-taken.invariant.given text head image a in
    let all = rw c.in_default.is at (c.in_ok-entry.ensures {u = tt} (Some text) head image given.entries given.among) in
    ended text c.args.count head image given.entries all (omega (arith, given.counted, c.loop-taken-test.true))

-- one more
pub loop-taken-preserved : goal.loop-taken-preserved
loop-taken-preserved g c = record {
  same = λ e. absurd (omega (arith, e));
  given = λ text head image a.
      let given = c.loop-taken.invariant.given text head image a in
      let more = rw c.in-Some.is at (c.in_ok-entry.ensures {u = tt} (Some text) head image given.entries given.among) in
      given_more text (g.R.Read.remaining c.loop-taken.reader) c.loop-taken.entries head image c.loop-taken.taken given
      (g.R.Read.remaining c.next.new.reader) c.next.new.self c.in-Some.entry more.0;
  took = λ text head image a s.
      let took = c.loop-taken.invariant.took text head image a s in
      let more = rw c.in-Some.is at (c.in_ok-entry.ensures {u = tt} (Some text) head image took.entries took.among) in
      took_more text c.args.before (g.R.Read.remaining c.loop-taken.reader) c.loop-taken.entries head image c.loop-taken.window c.take.new.window c.loop-taken.taken took
      (g.R.Read.remaining c.next.new.reader) c.next.new.self c.in-Some.entry _ (search rules) (search rules) more.0 more.1
      (rw c.number.ensures at (c.in_ok-take.ensures {u = tt}));
}

-- as many as were asked for
pub returns-clause-window : goal.returns-clause-window
returns-clause-window g c = λ text head image a none s.
    let took = c.loop-taken.invariant.took text head image a s in
    let all : c.loop-taken.taken ≡ c.args.count = omega (arith, c.loop-taken-test.false, c.loop-taken.auto.taken-end) in
    is_window text c.args.before (g.R.Read.remaining c.loop-taken.reader) c.loop-taken.entries head image c.loop-taken.window c.args.count
    (rw all at took)
    (λ e. ap (λ (s : EntriesState). s.first) (c.loop-taken.invariant.same (all ∙ e)) ∙ none e)
