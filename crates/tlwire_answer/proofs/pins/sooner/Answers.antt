use Rattle.std.proofs.Common.{◌≤◌, Bool, Option, rules, subst}
use Rattle.std.specs.Bool.{OnFalse}
use Rattle.tlwire_pins.specs.declared.pass.Wrong.{Wrong}
use Rattle.tlwire_answer.specs.Answer.{IsFirstOf, IsWrongAt}
use Rattle.tlwire_answer.proofs.Firsts.{first_before, first_behind, first_stays, first_there}
use Rattle.tlwire_answer.proofs.pins.sooner.Goals as goal

-- nothing was wrong before
pub returns-in-None : goal.returns-in-None
returns-in-None c = λ m clients first here.
    first_there m clients c.args.other (subst (λ (o : Option Wrong). IsFirstOf m clients o) c.in-None.is first) here

-- or the first stays, where nothing is wrong at the next client's pins
pub returns-in-None-other : goal.returns-in-None-other
returns-in-None-other c = λ m clients first here.
    first_stays m clients c.in-Some.one (subst (λ (o : Option Wrong). IsFirstOf m clients o) c.in-Some.is first)
    (subst (λ (o : Option Wrong). IsWrongAt m clients o) c.in-None-other.is here)

pub returns-then-is_before : goal.returns-then-is_before
returns-then-is_before c = λ m clients first here.
    first_before m clients c.in-Some.one c.in-Some-other.other (c.is_before.ensures.yes (search rules))
    (subst (λ (o : Option Wrong). IsFirstOf m clients o) c.in-Some.is first)
    (subst (λ (o : Option Wrong). IsWrongAt m clients o) c.in-Some-other.is here)

pub returns-else-is_before : goal.returns-else-is_before
returns-else-is_before c = λ m clients first here.
    first_behind m clients c.in-Some.one c.in-Some-other.other
    (subst (λ (b : Bool). OnFalse b (c.in-Some-other.other.place ≤ c.in-Some.one.place)) c.if-is_before.false c.is_before.ensures.no)
    (subst (λ (o : Option Wrong). IsFirstOf m clients o) c.in-Some.is first)
    (subst (λ (o : Option Wrong). IsWrongAt m clients o) c.in-Some-other.is here)
