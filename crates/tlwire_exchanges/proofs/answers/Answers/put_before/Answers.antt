use Rattle.std.proofs.Common.{ℕ, set, cond, Option, Some, ap, ◌∙◌}
use Rattle.std.specs.BTreeMap.{get}
use Rattle.std.specs.Option.{option_flatten}
use Rattle.tlwire_exchanges.specs.Exchange.{is_this}
use Rattle.tlwire_exchanges.specs.Opened.{by_key, first_of, key_of, linked}
use Rattle.tlwire_exchanges.specs.declared.answers.Key.{Key}
use Rattle.tlwire_exchanges.specs.declared.exchange.Exchange.{Exchange}
use Rattle.tlwire_exchanges.proofs.Same.{changed}
use Rattle.tlwire_exchanges.proofs.answers.Answers.put_before.Goals as goal

pub returns-in_ok-next-in-Some-clause-first : goal.returns-in_ok-next-in-Some-clause-first
returns-in_ok-next-in-Some-clause-first c = λ e.
    changed c.args.self.now.first c.insert.new.self c.in-Some.exchange e c.key_of.result (Some c.args.place)
    c.key_of.ensures (c.in_ok-next-in-Some.ensures.updates.0 (key_of e))
    ∙ ap (λ (o : Option Exchange). cond (is_this o e) (Some c.args.place) (first_of c.args.self.now.first e))
    c.in-Some.ensures

pub returns-in_ok-next-in-Some-clause-next : goal.returns-in_ok-next-in-Some-clause-next
returns-in_ok-next-in-Some-clause-next c =
    ap (λ (o : Option ℕ). set c.args.self.now.next.items c.args.place o)
    (c.flatten.ensures
    ∙ (ap (λ (o : Option (Option ℕ)). option_flatten o) c.in_ok-next-in-Some.ensures.old
    ∙ ap (λ (k : Key). option_flatten (get by_key c.args.self.now.first k)) c.key_of.ensures))
    ∙ ap (λ (o : Option Exchange). linked c.args.self.now.first o c.args.place c.args.self.now.next.items)
    c.in-Some.ensures
