use Rattle.std.proofs.Common.{List, ◌∙◌, ap, arith, map, refl, subst, vec_items}
use Rattle.std.proofs.lemmas.List.{take_all}
use Rattle.tlchart_record.specs.Film.{Filmed, entries_of}
use Rattle.tlchart_record.specs.declared.window.Written.{Written}
use Rattle.tlchart_record.proofs.Frames.{filmed-more, filmed-none, somewhere-next}
use Rattle.tlchart_record.proofs.film.film_each.Goals as goal

-- none was filmed
pub loop-written-init : goal.loop-written-init
loop-written-init c = record {
  start = refl;
  filmed = filmed-none c.args.judge.now c.args.blocks.now (map vec_items c.args.film.now.changes.items) (ap (map vec_items) c.requires.empty);
  somewhere = c.requires.somewhere;
  state = c.requires.shown;
}

-- one more entry was filmed
pub loop-written-preserved : goal.loop-written-preserved
loop-written-preserved c = record {
  start = c.in_ok-push_frame.ensures.start ∙ c.loop-written.invariant.start;
  filmed =
      filmed-more c.args.judge.now c.loop-written.judge c.frame_of.new.judge c.args.blocks.now c.args.entries.now
      c.loop-written.written-index c.written-item.result (map vec_items c.loop-written.film.changes.items)
      (map vec_items c.push_frame.new.film.changes.items) c.in_ok-frame.frame.changes.items (omega arith) c.written-item.is
      c.in_ok-push_frame.ensures.changes c.loop-written.invariant.filmed c.in_ok-frame.ensures.plays c.in_ok-frame.ensures.changes;
  somewhere =
      somewhere-next c.written-item.result.entry c.loop-written.judge c.frame_of.new.judge c.loop-written.invariant.somewhere
      c.in_ok-frame.ensures.plays;
  state = c.in_ok-frame.ensures.shown;
}

-- all were filmed
pub returns-clause-filmed : goal.returns-clause-filmed
returns-clause-filmed c =
    subst (λ (ws : List Written). Filmed c.args.judge.now c.loop-written.judge c.args.blocks.now (entries_of ws) (map vec_items c.loop-written.film.changes.items))
    (take_all c.loop-written.written-index c.args.entries.now (omega arith)) c.loop-written.invariant.filmed
