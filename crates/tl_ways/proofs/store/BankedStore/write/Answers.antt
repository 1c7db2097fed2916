use Rattle.std.proofs.Common.{◌<◌, subst, sym}
use Rattle.tl_ways.specs.Stores.{Store}
use Rattle.tl_ways.proofs.StoreLaws.{bytes_at-with_bytes}
use Rattle.tl_ways.proofs.store.BankedStore.write.Goals as goal

pub returns-clause-bytes : goal.returns-clause-bytes
returns-clause-bytes c = λ x y y_in.
    let set_in : c.args.set < c.self.inside.sets = subst (λ (s : Store). c.args.set < s.sets) (sym c.self.view_is) c.requires.set in
    let way_in : c.args.way < c.self.inside.ways = subst (λ (s : Store). c.args.way < s.ways) (sym c.self.view_is) c.requires.way in
    let y_in' : y < c.self.inside.ways = subst (λ (s : Store). y < s.ways) (sym c.self.view_is) y_in in
    rw (c.index.ensures, c.index-2.ensures, ← c.self.view_is)
    (bytes_at-with_bytes _ c.args.set c.args.way x y c.args.bytes c.self.invariant set_in way_in y_in')
