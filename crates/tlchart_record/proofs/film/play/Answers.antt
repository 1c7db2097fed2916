use Rattle.tlchart_record.proofs.Frames.{plays}
use Rattle.tlchart_record.proofs.film.play.Goals as goal

-- an entry that is permitted, and one that is not
pub returns : goal.returns
returns c =
    plays c.args.entry.now c.args.judge.now c.step-done.new.self c.step-done.result c.settle.result c.settle.ensures c.step-done.ensures.ok
    c.step-done.ensures.broken c.step-done.ensures.unchanged
