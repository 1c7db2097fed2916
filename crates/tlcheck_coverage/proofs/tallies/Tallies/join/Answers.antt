use Rattle.std.proofs.Common.{List, All, sym, subst}
use Rattle.std.proofs.lemmas.List.Elements.{All-push}
use Rattle.tlcheck_home.specs.Tally.{TallyState}
use Rattle.tlcheck_coverage.specs.Tallies.{HasTables, TalliesState}
use Rattle.tlcheck_coverage.proofs.tallies.Tallies.join.Goals as goal

pub invariant_of-self-2 : goal.invariant_of-self-2
invariant_of-self-2 c =
    let own : HasTables c.self.inside.by_home c.args.tally =
    subst (λ (s : TalliesState). HasTables s.by_home c.args.tally) (sym c.self.view_is) c.requires in
    subst (λ (ts : List TallyState). All (HasTables c.self.inside.by_home) ts) (sym (c.in_ok-push.ensures {u = tt}).items)
    (All-push (HasTables c.self.inside.by_home) c.self.inside.tallies.items c.args.tally c.self.invariant own)
