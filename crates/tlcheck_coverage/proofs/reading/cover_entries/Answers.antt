use Rattle.std.proofs.Common.{arith}
use Rattle.tlcheck_rules.specs.Judged.{events_of}
use Rattle.tlcheck_reader.proofs.Judging.{goes_on as judged_on, init}
use Rattle.tlcheck_coverage.proofs.Counting.{at_end, begins, goes_on, refuses}
use Rattle.tlcheck_coverage.proofs.reading.cover_entries.Goals as goal

pub loop-count-init : goal.loop-count-init
loop-count-init g c = record {
  inside = c.requires;
  judged = λ known head image among follows.
      init known (g.R.Read.remaining c.args.reader.now) c.args.entries head image c.args.judge among follows;
  amid = λ known head image initial among follows client opens.
      begins c.args.file c.args.place known (g.R.Read.remaining c.args.reader.now) c.args.entries head image c.args.judge initial c.args.tallies.now among follows opens;
}

-- nothing is left
pub returns-in_default-clause-covered : goal.returns-in_default-clause-covered
returns-in_default-clause-covered g c = λ known head image initial among follows client opens.
    let amid = c.loop-count.invariant.amid known head image initial among follows client opens in
    let all = rw c.in_default.is at (c.in_ok-entry.ensures {u = tt} known head image amid.judged.entries amid.judged.among) in
    at_end c.args.file c.args.place known (g.R.Read.remaining c.loop-count.reader) c.loop-count.entries head image c.loop-count.judge c.loop-count.count initial
    c.loop-count.tallies amid all

-- the entry breaks something
pub returns-in-Err-Broken-clause-refused : goal.returns-in-Err-Broken-clause-refused
returns-in-Err-Broken-clause-refused g c = λ known head image among follows.
    let judged = c.loop-count.invariant.judged known head image among follows in
    let more = rw c.in-Some.is at (c.in_ok-entry.ensures {u = tt} known head image judged.entries judged.among) in
    let said = c.in-Err-Broken.ensures {u = tt} in
    let breaks = said.broken c.in-Err-Broken.breach c.in-Err-Broken.field-0-is head.order head.shape image (events_of judged.entries) judged.follows in
    let kept = said.unchanged c.in-Err-Broken.breach c.in-Err-Broken.field-0-is in
    rw c.broken-stopped.ensures (rw c.number.ensures (rw c.in-Err-Broken.breach-is
    (refuses known (g.R.Read.remaining c.loop-count.reader) c.loop-count.entries head image c.loop-count.judge c.loop-count.count judged
    c.in-Some.entry c.see.new.judge c.in-Err-Broken.breach kept breaks c.next.new.self.number more.1)))

-- the next entry
pub loop-count-preserved : goal.loop-count-preserved
loop-count-preserved g c = record {
  inside = omega (arith, c.loop-count.invariant.inside, c.see.ensures.size);
  judged = λ known head image among follows.
      let judged = c.loop-count.invariant.judged known head image among follows in
      let more = rw c.in-Some.is at (c.in_ok-entry.ensures {u = tt} known head image judged.entries judged.among) in
      let next_ = (c.in-Ok.ensures {u = tt}).permitted head.order head.shape image (events_of judged.entries) judged.follows in
      judged_on known (g.R.Read.remaining c.loop-count.reader) c.loop-count.entries head image c.loop-count.judge c.loop-count.count judged
      (g.R.Read.remaining c.next.new.reader) c.next.new.self c.in-Some.entry c.see.new.judge more.0 next_.0 next_.1;
  amid = λ known head image initial among follows client opens.
      let amid = c.loop-count.invariant.amid known head image initial among follows client opens in
      let more = rw c.in-Some.is at (c.in_ok-entry.ensures {u = tt} known head image amid.judged.entries amid.judged.among) in
      let seen = c.in-Ok.ensures {u = tt} in
      let next_ = seen.permitted head.order head.shape image (events_of amid.judged.entries) amid.judged.follows in
      let sees = seen.ok head.order head.shape image (events_of amid.judged.entries) amid.judged.follows client in
      goes_on c.args.file c.args.place known (g.R.Read.remaining c.loop-count.reader) c.loop-count.entries head image c.loop-count.judge c.loop-count.count initial
      c.loop-count.tallies amid (g.R.Read.remaining c.next.new.reader) c.next.new.self c.in-Some.entry c.see.new.judge c.see.new.self more.0 more.1 next_.0 next_.1
      (rw c.number.ensures at sees);
}
