use Rattle.std.proofs.Common.{◌≡◌, ◌<◌, ◌==◌, ◌||◌, ◌∙◌, not, ℕ, false, true, ap, arith, refl, subst, sym}
use Rattle.std.proofs.lemmas.Bool.{ne_eqb}
use denote.Enum.Bare.{sameb}
use Rattle.tl_types.specs.contracts.permission.Perm.{the_type}
use Rattle.tl_types.specs.declared.permission.Perm.{Perm}
use Rattle.tl_types.specs.declared.permission.Perm.TheVariants.{None as p_None, Branch, Tip}
use Rattle.tl_protocol.specs.Protocol.{is_none}
use Rattle.tl_ways.specs.Entries.{entry_perm}
use Rattle.tl_bank_spec.specs.View.{View, end_at, client_at}
use Rattle.tl_bank_laws.proofs.Sights.{alone-fails, alone-nobody}
use Rattle.tl_bank.proofs.bank.Bank.is_alone.Goals as goal

-- a permission that is not None
not-none : (p : Perm) → not (sameb the_type p p_None) ≡ true → is_none p ≡ false
not-none p_None h = cc
not-none Branch h = refl
not-none Tip h = refl

pub returns-then-is_unshared : goal.returns-then-is_unshared
returns-then-is_unshared c =
    sym (alone-nobody c.args.self.now.geometry.clients c.args.client (end_at c.args.self.now c.args.block).client
    (λ x. c.requires x ∙ c.is_unshared.ensures.0 c.if-is_unshared.true x))

pub returns-then-ne : goal.returns-then-ne
returns-then-ne c =
    let v : View = c.args.self.now in
    let x : ℕ = c.loop-number.number in
    let inside : x < c.self.inside.geometry.clients = omega (arith, c.clients-number-end.ensures.is) in
    let below : x < v.geometry.clients = subst (λ (w : View). x < w.geometry.clients) c.self.view_is inside in
    let recorded : c.perm.result ≡ (client_at v x c.args.block).recorded =
    c.perm.ensures.is ∙ ap (λ (y : ℕ). entry_perm c.args.entry y) c.new.ensures ∙ sym (c.requires x) in
    let other : (x == c.args.client) ≡ false = ne_eqb x c.args.client (λ e. c.if-number.true (e ∙ sym c.number.ensures)) in
    let some : is_none (client_at v x c.args.block).recorded ≡ false =
    ap is_none (sym recorded) ∙ not-none c.perm.result (sym c.ne.ensures ∙ c.if-ne.true) in
    let fails : ((x == c.args.client) || is_none (client_at v x c.args.block).recorded) ≡ false = rw (other, some) refl in
    sym (alone-fails v.geometry.clients c.args.client x (end_at v c.args.block).client below fails)
