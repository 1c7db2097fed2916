use Rattle.tlcheck_rules.specs.Judged.{events_of}
use Rattle.tlcheck_reader.proofs.Judging.{goes_on, stops_at}
use Rattle.tlcheck_reader.proofs.record.check_entries.Goals as goal

-- the entry breaks something, and the judge is where it was
pub returns-in-Err-Broken : goal.returns-in-Err-Broken
returns-in-Err-Broken g c = λ known head image among follows.
    let judged = c.loop-count.invariant known head image among follows in
    let more = rw c.in-Some.is at (c.in_ok-entry.ensures {u = tt} known head image judged.entries judged.among) in
    let said = c.in-Err-Broken.ensures {u = tt} in
    let breaks = said.broken c.in-Err-Broken.breach c.in-Err-Broken.field-0-is head.order head.shape image (events_of judged.entries) judged.follows in
    let kept = said.unchanged c.in-Err-Broken.breach c.in-Err-Broken.field-0-is in
    rw c.broken-stopped.ensures (rw c.number.ensures (rw c.in-Err-Broken.breach-is
    (stops_at known (g.R.Read.remaining c.loop-count.reader) c.loop-count.entries head image c.loop-count.judge c.loop-count.count judged
    c.in-Some.entry c.step.new.self c.in-Err-Broken.breach kept breaks c.next.new.self.number more.1)))

-- the entry is permitted, and the judge goes on
pub loop-count-preserved : goal.loop-count-preserved
loop-count-preserved g c = λ known head image among follows.
    let judged = c.loop-count.invariant known head image among follows in
    let more = rw c.in-Some.is at (c.in_ok-entry.ensures {u = tt} known head image judged.entries judged.among) in
    let next_ = (c.in-Ok.ensures {u = tt}).ok head.order head.shape image (events_of judged.entries) judged.follows in
    goes_on known (g.R.Read.remaining c.loop-count.reader) c.loop-count.entries head image c.loop-count.judge c.loop-count.count judged
    (g.R.Read.remaining c.next.new.reader) c.next.new.self c.in-Some.entry c.step.new.self more.0 next_.0 next_.1
