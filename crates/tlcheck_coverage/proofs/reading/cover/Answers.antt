use Rattle.tlcheck_coverage.proofs.reading.cover.Goals as goal

-- each entry is counted
pub returns-clause-covered : goal.returns-clause-covered
returns-clause-covered g c =
    let opening = c.in_ok-opening.ensures {u = tt} in
    let among = rw c.in-Some.is at opening.opens in
    let fit = rw c.in-Some.is at opening.fit in
    let follows = rw c.deref.ensures.value at (c.in_ok-judge.ensures {u = tt}) in
    c.cover_entries.ensures.covered (g.R.Read.remaining c.args.reader.now) c.in-Some.opening.head c.in-Some.opening.image.items c.args.tallies.now among follows fit.clients
    (c.in_ok-place.ensures {u = tt}).opens
