use Rattle.std.proofs.Common.{◌≡◌, ◌≤◌, List, length, subst, arith, rules}
use Rattle.tl_bank_home.specs.declared.crossings.Crossing.{Crossing}
use Rattle.tl_bank_home.specs.Crossings.{AreApart}
use Rattle.tl_bank_home.proofs.CrossingLaws.{length-held}
use Rattle.tl_bank_home.proofs.crossings.Crossings.len.Goals as goal

pub returns-clause-each : goal.returns-clause-each
returns-clause-each c = λ n holder inside own.
    let at_most : length c.args.self.now ≤ n =
    length-held holder n c.args.self.now (subst (λ (list : List Crossing). AreApart list) c.self.view_is c.self.invariant.apart) inside own in
    let is : c.len.result ≡ length c.args.self.now = search rules in
    omega (arith, is, at_most)
