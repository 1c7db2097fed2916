use Rattle.std.proofs.Common.{ℕ, ◌<◌, Contains, ap, ◌∙◌, sym, subst, arith}
use Rattle.std.proofs.lemmas.Bool.{false≢true, iff_false}
use Rattle.tl_map.specs.Numbers.{Numbers}
use Rattle.tl_tickets.specs.Shares.{share_at}
use Rattle.tl_tickets.proofs.Sums.{looked_for, one_more, shares_add_up}
use Rattle.tl_tickets.proofs.shares.gather.Goals as goal

pub returns-then-not-has_share-clause-exact : goal.returns-then-not-has_share-clause-exact
returns-then-not-has_share-clause-exact c =
    let v = c.args.bank.now in
    let n = c.loop-number.number in
    let clients = c.clients-clients.ensures.is ∙ ap (λ (g : Numbers). g.clients) c.geometry.ensures in
    let known : n < v.geometry.clients = omega (arith, clients) in
    let x = looked_for v n c.new-client.result c.number.result c.in-Some.copies known c.new-client.ensures c.number.ensures c.in-Some.ensures in
    (λ f. absurd (false≢true f), λ all. absurd (iff_false c.has_share.ensures c.if-not-has_share.true (subst (Contains c.args.shares.now) (sym x) (all.each n known))))

pub loop-number-preserved : goal.loop-number-preserved
loop-number-preserved c =
    let v = c.args.bank.now in
    let n = c.loop-number.number in
    let clients = c.clients-clients.ensures.is ∙ ap (λ (g : Numbers). g.clients) c.geometry.ensures in
    let known : n < v.geometry.clients = omega (arith, clients) in
    let x = looked_for v n c.new-client.result c.number.result c.in-Some.copies known c.new-client.ensures c.number.ensures c.in-Some.ensures in
    one_more (λ (client : ℕ). Contains c.args.shares.now (share_at v client)) n c.loop-number.invariant
    (subst (Contains c.args.shares.now) x (c.has_share.ensures.0 c.if-not-has_share.false))

pub returns-clause-held : goal.returns-clause-held
returns-clause-held c =
    let v = c.args.bank.now in
    let clients = c.clients-clients.ensures.is ∙ ap (λ (g : Numbers). g.clients) c.geometry.ensures in
    let long = c.if-shares-clients.false in
    let last = c.loop-number-test.false in
    c.sum.ensures
    ∙ (shares_add_up v v.geometry.clients c.args.shares.now (omega (arith, clients, long))
    (λ client lt. c.loop-number.invariant client (omega (arith, clients, last, lt))) ∙ sym c.held_by_client.ensures)
