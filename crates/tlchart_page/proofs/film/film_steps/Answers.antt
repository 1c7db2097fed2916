use Rattle.std.proofs.Common.{◌∙◌, map, vec_items}
use Rattle.tlchart_page.proofs.Frames.{frames-more}
use Rattle.tlchart_page.proofs.film.film_steps.Goals as goal

-- one more step was filmed
pub loop-index-preserved : goal.loop-index-preserved
loop-index-preserved c = record {
  start = c.in_ok-push_frame.ensures.start ∙ c.loop-index.invariant.start;
  frames =
      frames-more c.args.cells.now c.args.steps.now c.loop-index.index c.index-steps-index.result c.args.network.now c.loop-index.network
      c.frame_of.new.network c.loop-index.film.answers.items c.push_frame.new.film.answers.items (map vec_items c.loop-index.film.changes.items)
      (map vec_items c.push_frame.new.film.changes.items) c.in_ok-frame.frame.answer c.in_ok-frame.frame.changes.items c.loop-index-test.true
      c.index-steps-index.is c.loop-index.invariant.frames c.in_ok-frame.ensures.answers c.in_ok-frame.ensures.changes
      c.in_ok-push_frame.ensures.answers c.in_ok-push_frame.ensures.changes;
  state = c.in_ok-frame.ensures.shown;
}
