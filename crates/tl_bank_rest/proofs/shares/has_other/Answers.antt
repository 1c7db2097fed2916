use Rattle.std.proofs.Common.{◌≡◌, ℕ, ◌<◌, false, sym, ◌∙◌, ap, arith, below_more}
use Rattle.tl_map.specs.Numbers.{Numbers}
use Rattle.tl_bank_rest.proofs.Sharing.{all-pass, other-here, one-fails}
use Rattle.tl_bank_rest.specs.Shares.{is_other}
use Rattle.tl_bank_rest.proofs.shares.has_other.Goals as goal

pub bounds-shares-place : goal.bounds-shares-place
bounds-shares-place c =
    let clients : c.clients-number-end.result ≡ c.args.bank.now.geometry.clients =
    c.clients-number-end.ensures.is ∙ ap (λ (g : Numbers). g.clients) c.geometry.ensures in
    omega (arith, clients, c.loop-number-test.true, c.requires)

pub returns-then-is_other : goal.returns-then-is_other
returns-then-is_other c =
    let clients : c.clients-number-end.result ≡ c.args.bank.now.geometry.clients =
    c.clients-number-end.ensures.is ∙ ap (λ (g : Numbers). g.clients) c.geometry.ensures in
    let lt : c.loop-number.number < c.args.bank.now.geometry.clients = omega (arith, clients, c.loop-number-test.true) in
    sym (one-fails (is_other c.args.bank.now c.args.shares.now) c.args.bank.now.geometry.clients c.loop-number.number lt
    (other-here c.args.bank.now c.args.shares.now c.loop-number.number c.index-shares-place.result c.is_other.result _ c.requires lt
    c.index-shares-place.is c.is_other.ensures c.if-is_other.true))

pub loop-number-preserved : goal.loop-number-preserved
loop-number-preserved c =
    let clients : c.clients-number-end.result ≡ c.args.bank.now.geometry.clients =
    c.clients-number-end.ensures.is ∙ ap (λ (g : Numbers). g.clients) c.geometry.ensures in
    let lt : c.loop-number.number < c.args.bank.now.geometry.clients = omega (arith, clients, c.loop-number-test.true) in
    below_more (λ (x : ℕ). is_other c.args.bank.now c.args.shares.now x ≡ false) c.loop-number.number c.loop-number.invariant
    (other-here c.args.bank.now c.args.shares.now c.loop-number.number c.index-shares-place.result c.is_other.result _ c.requires lt
    c.index-shares-place.is c.is_other.ensures c.if-is_other.false)

pub returns : goal.returns
returns c =
    let clients : c.clients-number-end.result ≡ c.args.bank.now.geometry.clients =
    c.clients-number-end.ensures.is ∙ ap (λ (g : Numbers). g.clients) c.geometry.ensures in
    sym (all-pass (is_other c.args.bank.now c.args.shares.now) c.args.bank.now.geometry.clients
    (λ x l. c.loop-number.invariant x (omega (arith, clients, c.loop-number-test.false))))
