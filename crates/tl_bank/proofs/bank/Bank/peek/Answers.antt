use Rattle.std.proofs.Common.{◌≡◌, false, ◌∙◌, sym, ap, subst}
use Rattle.tl_map.specs.Places.{block_of_address}
use Rattle.tl_bank_spec.specs.View.{View}
use Rattle.tl_bank_spec.specs.Views.{no_part, peeked}
use Rattle.tl_bank_laws.specs.Means.{Means}
use Rattle.tl_bank.specs.Shown.{layers}
use Rattle.tl_bank_laws.proofs.Views.{peeked-is, peeks-last, peeks-where}
use Rattle.tl_bank.proofs.bank.Bank.peek.Goals as goal

-- the byte is the one that is shown
is-shown : (c : goal.After-byte) → c.byte.result ≡ peeked c.args.self.now c.args.client c.args.address
is-shown c =
    let v : View = c.args.self.now in
    let at : c.block_at.result ≡ block_of_address v.geometry c.args.address =
    c.block_at.ensures ∙ ap (λ (w : View). block_of_address w.geometry c.args.address) c.self.view_is in
    let part : no_part v c.args.client (block_of_address v.geometry c.args.address) ≡ false =
    ap (λ b. no_part v c.args.client b) (sym at) ∙ sym c.has_no_part.ensures ∙ c.if-has_no_part.false in
    c.byte.ensures ∙ sym (peeked-is v c.args.client c.args.address part)

pub returns-clause-readable : goal.returns-clause-readable
returns-clause-readable c =
    let m : Means c.args.self.now (layers c.self.inside) =
    subst (λ (v : View). Means v (layers c.self.inside)) c.self.view_is c.self.invariant in
    rw (is-shown c) (peeks-where c.args.self.now (layers c.self.inside) c.args.client c.args.address m)

pub returns-clause-newest : goal.returns-clause-newest
returns-clause-newest c =
    let m : Means c.args.self.now (layers c.self.inside) =
    subst (λ (v : View). Means v (layers c.self.inside)) c.self.view_is c.self.invariant in
    rw (is-shown c) (peeks-last c.args.self.now (layers c.self.inside) c.args.client c.args.address m)
