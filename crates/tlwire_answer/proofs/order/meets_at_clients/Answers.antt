use Rattle.std.proofs.Common.{◌≡◌, ℕ, List, ap, arith, rules, inl, inr, ◌∙◌, subst, take}
use Rattle.std.proofs.lemmas.Bool.{eqb-true}
use Rattle.std.specs.List.{list_any}
use Rattle.std.proofs.lemmas.List.{take_all}
use Rattle.tlwire_record.specs.Header.{SettingState}
use Rattle.tlwire_search.specs.Clients.{is_client}
use Rattle.tlwire_search.specs.declared.premises.Premises.{Premises}
use Rattle.tlwire_search.specs.declared.way.Way.TheVariants.{AtClient}
use Rattle.tlwire_answer.specs.Answer.{Meets, with_lines}
use Rattle.tlwire_answer.proofs.Clients.{any_more, named_by_line}
use Rattle.tlwire_answer.proofs.order.meets_at_clients.Goals as goal

pub loop-client-preserved : goal.loop-client-preserved
loop-client-preserved c = λ lawful client any.
    elim (any_more (is_client client) c.named-named.result.now c.loop-client.client-index _ (omega arith) c.client-item.is any) [
      | inl before ↦ c.loop-client.invariant lawful client before
      | inr here ↦
          subst (λ (k : ℕ). Meets (with_lines c.args.messages.now c.args.seen.now) c.args.run.now (AtClient k))
          (c.number.ensures ∙ eqb-true _ client here) (c.in_ok-meets.ensures (search rules) lawful)
    ]

pub returns : goal.returns
returns c = λ yes lawful client named.
    let read : c.named-named.result.now ≡ c.args.messages.now.setting.premises.pins.named =
    c.named-named.ensures ∙ ap (λ (ps : Premises). ps.pins.named) (c.premises.ensures ∙ ap (λ (x : SettingState). x.premises) c.setting.ensures) in
    let all : take c.loop-client.client-index c.named-named.result.now ≡ c.args.messages.now.setting.premises.pins.named =
    take_all c.loop-client.client-index c.named-named.result.now (omega arith) ∙ read in
    c.loop-client.invariant lawful client
    (ap (λ (cs : List ℕ). list_any (is_client client) cs) all ∙ named_by_line c.args.messages.now.setting.premises client named) named
