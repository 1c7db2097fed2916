-- One more command is answered, or nothing is.
use Rattle.std.proofs.Common.{◌≡◌, [], ℕ, ◌<◌, length, List, ◌∷◌, ◌++◌, slice_index_or, arith, ap, sym, ◌∙◌}
use Rattle.std.proofs.lemmas.List.{length_push}
use Rattle.tl_text.specs.declared.report.Answered.{Answered}
use Rattle.tl_client.specs.Agents.{ClientLinks}
use Rattle.tl_client.specs.Answers.{AgentView, answered_of}
use Rattle.tl_client.proofs.AnswerLaws.{answered-push, beginning-push, gains-one, length-answered}
use Rattle.tl_client.proofs.agent.Agent.try_command.Goals as goal

pub invariant_of-self : goal.invariant_of-self
invariant_of-self g c =
    let n = c.self.invariant in
    let l : c.len-index.result ≡ length c.self.inside.bytes.items = c.len-index.ensures ∙ c.self.inside.bytes.ok.0 in
    let i : c.index-script-index.result ≡ slice_index_or c.self.inside.script.now (length c.self.inside.bytes.items) c.index-script-index.result =
    c.index-script-index.is ∙ ap (λ k. slice_index_or c.self.inside.script.now k c.index-script-index.result) l in
    let short : length c.self.inside.bytes.items < length c.self.inside.script.now = omega (arith, l, c.if-index-self.false) in
    let pushed = length_push c.self.inside.bytes.items c.in-Ok.done.bytes in
    let all = ap (λ (xs : List (List ℕ)). length xs) c.push_reserved.ensures.items in (
      beginning-push c.self.inside.bytes.items c.push_reserved.new.self.items c.self.inside.script.now c.in-Ok.done.bytes c.index-script-index.result
          c.push_reserved.ensures.items short i n.0.1 c.in-Ok.ensures.gains.2,
      omega (arith, all, pushed, short),
      omega (arith, c.push_reserved.ensures.capacity, n.2),
      n.3,
    )

pub returns-in-Ok-clause-gains : goal.returns-in-Ok-clause-gains
returns-in-Ok-clause-gains g c =
    let v = c.self.view_is in
    let n = c.self.invariant in
    let l : c.len-index.result ≡ length c.self.inside.bytes.items = c.len-index.ensures ∙ c.self.inside.bytes.ok.0 in
    let i : c.index-script-index.result ≡ slice_index_or c.self.inside.script.now (length c.self.inside.bytes.items) c.index-script-index.result =
    c.index-script-index.is ∙ ap (λ k. slice_index_or c.self.inside.script.now k c.index-script-index.result) l in
    let short : length c.self.inside.bytes.items < length c.self.inside.script.now = omega (arith, l, c.if-index-self.false) in
    let answers : answered_of c.self.inside.bytes.items c.self.inside.script.now ≡ c.args.self.now.answered = ap (λ (t : AgentView). t.answered) v in
    let a : Answered = record { command = c.index-script-index.result; bytes = c.in-Ok.done.bytes } in
    let gained =
    gains-one c.args.self.now c.client-client.result c.self.inside.clock c.len-index.result c.in-Ok.done.clock c.index-script-index.result c.in-Ok.done.bytes
    (g.P.Port.successes c.args.port.now) (g.P.Port.successes c.carry_out.new.port)
    (sym (c.client-client.ensures ∙ ap (λ (t : AgentView). t.links.client) v)) (sym (ap (λ (t : AgentView). t.clock) v))
    (ap (λ (xs : List Answered). length xs) (sym answers) ∙ length-answered c.self.inside.bytes.items c.self.inside.script.now n.1 ∙ sym l)
    c.in-Ok.ensures.gains.0 c.in-Ok.ensures.gains.1 in (
      ap (λ (l : ClientLinks). l.client) c.succeed.ensures ∙ ap (λ (t : AgentView). t.links.client) v,
      ap (λ (t : AgentView). t.script) v,
      (
        a ∷ [],
        omega arith,
        ap (λ xs. answered_of xs c.self.inside.script.now) c.push_reserved.ensures.items
            ∙ answered-push c.self.inside.bytes.items c.self.inside.script.now c.in-Ok.done.bytes c.index-script-index.result short i
            ∙ ap (λ xs. xs ++ a ∷ []) answers,
        gained.0,
        gained.1,
      ),
    )

pub returns-in-Ok-clause-beginning : goal.returns-in-Ok-clause-beginning
returns-in-Ok-clause-beginning g c = (invariant_of-self g c).0
