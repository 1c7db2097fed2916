use Rattle.std.proofs.Common.{map, string_bytes}
use Rattle.tlchart_page.proofs.Changed.{told-on}
use Rattle.tlchart_page.proofs.film.tell.Goals as goal

-- what is shown now is told
pub returns-clause-told : goal.returns-clause-told
returns-clause-told c =
    told-on c.args.changes.now.items c.push_change.new.changes.items c.in_ok-change.change (map string_bytes c.args.state.now)
    (map string_bytes c.show.new.state) c.args.place (string_bytes c.args.text) c.in_ok-change.ensures.change c.in_ok-change.ensures.shown
    c.in_ok-push_change.ensures
