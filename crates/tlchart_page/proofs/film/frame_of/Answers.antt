use Rattle.std.proofs.Common.{map, string_bytes}
use Rattle.tlchart_page.proofs.Reached.{shown-but}
use Rattle.tlchart_page.proofs.film.frame_of.Goals as goal

-- what the step does not reach shows what it showed
pub changes_in-requires : goal.changes_in-requires
changes_in-requires c =
    shown-but c.args.index c.args.step.now c.args.network.now c.step.new.self c.in_ok-answer.answer c.in_ok-answer.ensures.answer c.of-reach.result
    c.of-reach.ensures.bank c.of-reach.ensures.spot c.args.cells.now (map string_bytes c.args.state.now) c.requires
