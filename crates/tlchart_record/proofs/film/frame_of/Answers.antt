use Rattle.std.proofs.Common.{List, ℕ, ◌∙◌, ap, map, string_bytes, sym}
use Rattle.tlchart_page.specs.Film.{changed}
use Rattle.tlchart_record.proofs.Frames.{shown-but}
use Rattle.tlchart_record.proofs.film.frame_of.Goals as goal

-- the other blocks show what they showed
pub changes_in-requires : goal.changes_in-requires
changes_in-requires c =
    shown-but c.args.entry.now c.args.judge.now c.play.new.judge c.block_of-block.result c.args.blocks.now (map string_bytes c.args.state.now)
    c.requires.somewhere c.in_ok-play.ensures c.block_of-block.ensures c.requires.shown

-- the changes are from the state before
pub returns-clause-changes : goal.returns-clause-changes
returns-clause-changes c =
    ap (λ (s : List (List ℕ)). changed s c.in_ok-changes.changes.items) (sym c.requires.shown)
    ∙ c.in_ok-changes.ensures.changes ∙ c.in_ok-changes.ensures.shown
