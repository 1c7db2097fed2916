use Rattle.std.proofs.Common.{◌≡◌, ℕ, subst}
use Rattle.tl_types.specs.declared.channel.Channel.TheVariants.{D, E}
use Rattle.tl_links.specs.declared.wanted.Wanted.TheVariants.{Any, Grant}
use Rattle.tl_links.specs.Table.{some_has}
use Rattle.tl_registers.specs.Pending.{grant_pending}
use Rattle.tl_bank_spec.specs.View.{View, end_at, shape_of}
use Rattle.tl_bank.specs.Shown.{shown, layers}
use Rattle.tl_bank_laws.proofs.Sights.{or-fails, or-passes, grant_pending-read}
use Rattle.tl_bank.proofs.bank.protocol_view.BankRegisterView.is_grant_pending.Goals as goal

pub returns-then-some_has : goal.returns-then-some_has
returns-then-some_has c =
    let h = layers c.self.inside in
    let n : ℕ = h.links.clients in
    let b : ℕ = c.args.block in
    subst (λ (v : View). c.some_has.result ≡ grant_pending (shape_of v.geometry) (end_at v b)) c.self.view_is
    (or-passes c.some_has.result (some_has h.links D b Grant n) (some_has h.links E b Any n)
    (grant_pending (shape_of (shown c.self.inside).geometry) (end_at (shown c.self.inside) b)) c.some_has.ensures c.if-some_has.true
    (grant_pending-read (shown c.self.inside) h b c.self.invariant))

pub returns-else-some_has : goal.returns-else-some_has
returns-else-some_has c =
    let h = layers c.self.inside in
    let n : ℕ = h.links.clients in
    let b : ℕ = c.args.block in
    subst (λ (v : View). c.some_has-else-some_has.result ≡ grant_pending (shape_of v.geometry) (end_at v b)) c.self.view_is
    (or-fails c.some_has.result c.some_has-else-some_has.result (some_has h.links D b Grant n) (some_has h.links E b Any n)
    (grant_pending (shape_of (shown c.self.inside).geometry) (end_at (shown c.self.inside) b)) c.some_has.ensures c.if-some_has.false
    c.some_has-else-some_has.ensures (grant_pending-read (shown c.self.inside) h b c.self.invariant))
