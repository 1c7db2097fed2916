use Rattle.std.proofs.Common.{subst, sym}
use Rattle.tl_bank_home.specs.Homes.{HomeState, EachHasHolder, outward_in}
use Rattle.tl_bank_home.proofs.home.Home.crossings.Goals as goal

pub returns-clause-each : goal.returns-clause-each
unfolding outward_in
returns-clause-each c = λ n holder each.
    let here : EachHasHolder (view c) n holder = subst (λ (h : HomeState). EachHasHolder h n holder) (sym c.self.view_is) each in
    c.len.ensures.each n holder here.inside here.own
  where
    view : goal.After-len → HomeState
    view c = record { directory = c.self.inside.directory; crossings = c.self.inside.crossings; memory = c.self.inside.memory }
