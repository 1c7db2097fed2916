use Rattle.std.proofs.Common.{◌≡◌, ℕ, ◌<◌, [], sym, ◌∙◌, ap, subst, arith, below_more}
use Rattle.tl_map.specs.Numbers.{Numbers}
use Rattle.tl_bank_spec.specs.Channels.{lane_at}
use Rattle.tl_bank_spec.specs.View.{View}
use Rattle.tl_bank_rest.proofs.Empty.{shown-head, shown-none}
use Rattle.tl_bank_rest.proofs.next.head.Goals as goal

pub returns-in-Some-clause-found : goal.returns-in-Some-clause-found
returns-in-Some-clause-found c =
    let v : View = c.args.bank.now in
    let clients : c.clients-number-end.result ≡ v.geometry.clients =
    c.clients-number-end.ensures.is ∙ ap (λ (g : Numbers). g.clients) c.geometry.ensures in
    let lt : c.new.result < v.geometry.clients = omega (arith, clients, c.loop-number-test.true, c.new.ensures) in
    shown-head v c.new.result c.args.channel c.in-Some.head.0 c.in-Some.head.1 lt (sym c.in-Some.ensures)

pub loop-number-preserved : goal.loop-number-preserved
loop-number-preserved c =
    let v : View = c.args.bank.now in
    let P : ℕ → Type 0 = λ x. (lane_at v x c.args.channel).messages ≡ [] in
    let clients : c.clients-number-end.result ≡ v.geometry.clients =
    c.clients-number-end.ensures.is ∙ ap (λ (g : Numbers). g.clients) c.geometry.ensures in
    let lt : c.new.result < v.geometry.clients = omega (arith, clients, c.loop-number-test.true, c.new.ensures) in
    let none : P c.new.result = shown-none v c.new.result c.args.channel lt (sym c.waiting.ensures ∙ c.in_default.is) in
    below_more P c.loop-number.number c.loop-number.invariant (subst P c.new.ensures none)
