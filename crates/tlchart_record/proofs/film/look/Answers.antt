use Rattle.std.proofs.Common.{map, string_bytes}
use Rattle.tlcheck_record.specs.State.{state_lines}
use Rattle.tlchart_page.proofs.Changed.{set-same}
use Rattle.tlchart_record.proofs.film.look.Goals as goal

-- another block shows what it showed
pub returns-else-number-block-clause-shown : goal.returns-else-number-block-clause-shown
returns-else-number-block-clause-shown c =
    set-same (map string_bytes c.args.state.now) c.args.place (state_lines c.args.judge.now.plain c.args.number)
    (c.requires.same c.if-number-block.false)
