use Rattle.std.proofs.Common.{◌∙◌, arith, get_or, map, string_bytes}
use Rattle.std.proofs.lemmas.Option.{slice_get-get_or}
use Rattle.tlcheck_record.specs.State.{state_lines}
use Rattle.tlchart_page.proofs.Changed.{half-inside, look-all, look-next, look-seen}
use Rattle.tlchart_record.proofs.film.changes_in.Goals as goal

-- the state has the place
pub look-requires-clause-inside : goal.look-requires-clause-inside
look-requires-clause-inside c =
    half-inside (state_lines c.args.judge.now.plain) string_bytes c.args.blocks.now c.loop-place.state (map string_bytes c.args.state.now)
    c.loop-place.place c.loop-place.invariant.shown c.requires.size (omega arith)

-- another block shows there what it shows now
pub look-requires-clause-same : goal.look-requires-clause-same
look-requires-clause-same c = λ ne.
    let at = slice_get-get_or c.args.blocks.now c.loop-place.place 0 (omega arith) in
    look-seen (state_lines c.args.judge.now.plain) c.args.blocks.now (map string_bytes c.args.state.now) (map string_bytes c.loop-place.state)
    c.loop-place.place (get_or c.args.blocks.now c.loop-place.place 0) at c.requires.size c.loop-place.invariant.shown
    (c.requires.shown c.loop-place.place (get_or c.args.blocks.now c.loop-place.place 0) at ne)

-- one more block was looked at
pub loop-place-preserved : goal.loop-place-preserved
loop-place-preserved c = record {
  shown =
      look-next (state_lines c.args.judge.now.plain) c.args.blocks.now (map string_bytes c.args.state.now)
      (map string_bytes c.loop-place.state) (map string_bytes c.look.new.state) c.loop-place.place
      (get_or c.args.blocks.now c.loop-place.place 0) (slice_get-get_or c.args.blocks.now c.loop-place.place 0 (omega arith))
      c.requires.size c.loop-place.invariant.shown c.in_ok-look.ensures.shown;
  told = c.in_ok-look.ensures.told (map string_bytes c.args.state.now) c.loop-place.invariant.told;
}

-- all were looked at
pub returns-clause-shown : goal.returns-clause-shown
returns-clause-shown c =
    c.loop-place.invariant.shown
    ∙ look-all (state_lines c.args.judge.now.plain) c.args.blocks.now (map string_bytes c.args.state.now) c.loop-place.place
    c.requires.size (omega arith)
