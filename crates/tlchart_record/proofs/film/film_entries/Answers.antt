use Rattle.std.proofs.Common.{◌≡◌, map, string_bytes}
use Rattle.tlchart_record.specs.Film.{blocks_shown, entries_of}
use Rattle.tlchart_record.proofs.Frames.{filmed-all}
use Rattle.tlchart_record.proofs.film.film_entries.Goals as goal

-- the film begins with the first state
pub returns : goal.returns
returns c =
    let start : map string_bytes c.film_each.new.film.start.items ≡ blocks_shown c.args.judge.now.plain c.args.blocks.now =
    cc (c.in_ok-film_each.ensures.start, c.in_ok-start.ensures) in
    filmed-all c.args.judge.now c.film_each.new.judge c.args.blocks.now (entries_of c.args.entries.now) c.film_each.new.film start
    c.in_ok-film_each.ensures.filmed
