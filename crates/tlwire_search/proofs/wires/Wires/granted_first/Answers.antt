use Rattle.std.proofs.Common.{◌≡◌, ◌+◌, ℕ, Option, Some, None, refl, sym, ap, ◌∙◌, subst, arith}
use Rattle.tl_types.specs.declared.channel.Channel.TheVariants.{D}
use Rattle.tlwire_search.specs.Unsent.{IsFirstUnsent}
use Rattle.tlwire_search.specs.declared.seen.Wire.TheVariants.{Link}
use Rattle.tlwire_search.specs.declared.sought.Sought.TheVariants.{Grant}
use Rattle.tlwire_search.specs.declared.wires.Wires.{Wires}
use Rattle.tlwire_search.proofs.Grants.{LeastOf, first_of_all, least_less, least_more, least_none}
use Rattle.tlwire_search.proofs.wires.Wires.granted_first.Goals as goal
use Rattle.tlwire_search.proofs.wires.Wires.granted_first.Goals.{in-Some+then-place-least, in-Some+else-place-least, in_default}

pub loop-number-init : goal.loop-number-init
loop-number-init c = (refl, λ x place low u. absurd (omega arith))

pub loop-number-preserved : goal.loop-number-preserved
loop-number-preserved c =
    let w : Wires = c.args.self.now in
    let block : ℕ = c.args.block in
    let number : ℕ = c.loop-number.number in
    let found : IsFirstUnsent w (Link number D) block Grant c.next_grant.result =
    subst (λ (n : ℕ). IsFirstUnsent w (Link n D) block Grant c.next_grant.result) c.new-c.ensures c.next_grant.ensures in
    elim c.match-next_grant.branch [
      | in-Some+then-place-least v ↦
          let there : IsFirstUnsent w (Link number D) block Grant (Some v.in-Some.place) =
          subst (λ (r : Option ℕ). IsFirstUnsent w (Link number D) block Grant r) v.in-Some.is found in
          let new : LeastOf w block (number + 1) (Some number) v.in-Some.place =
          least_less w block number c.loop-number.first c.loop-number.least v.in-Some.place c.loop-number.invariant there v.if-place-least.true in
          subst (λ (n : ℕ). LeastOf w block (number + 1) c.match-next_grant.first n) (sym v.least-is)
          (subst (λ (o : Option ℕ). LeastOf w block (number + 1) o v.in-Some.place) (sym (v.first-is ∙ ap (λ (n : ℕ). Some n) c.new-c.ensures)) new)
      | in-Some+else-place-least v ↦
          let there : IsFirstUnsent w (Link number D) block Grant (Some v.in-Some.place) =
          subst (λ (r : Option ℕ). IsFirstUnsent w (Link number D) block Grant r) v.in-Some.is found in
          let new : LeastOf w block (number + 1) c.loop-number.first c.loop-number.least =
          least_more w block number c.loop-number.first c.loop-number.least v.in-Some.place c.loop-number.invariant there v.if-place-least.false in
          subst (λ (n : ℕ). LeastOf w block (number + 1) c.match-next_grant.first n) (sym v.least-is)
          (subst (λ (o : Option ℕ). LeastOf w block (number + 1) o c.loop-number.least) (sym v.first-is) new)
      | in_default v ↦
          let none : IsFirstUnsent w (Link number D) block Grant None =
          subst (λ (r : Option ℕ). IsFirstUnsent w (Link number D) block Grant r) v.in_default.is found in
          let new : LeastOf w block (number + 1) c.loop-number.first c.loop-number.least =
          least_none w block number c.loop-number.first c.loop-number.least c.loop-number.invariant none in
          subst (λ (n : ℕ). LeastOf w block (number + 1) c.match-next_grant.first n) (sym v.least-is)
          (subst (λ (o : Option ℕ). LeastOf w block (number + 1) o c.loop-number.least) (sym v.first-is) new)
    ]

pub returns : goal.returns
returns c =
    let all : c.loop-number.number ≡ c.args.self.now.shape.clients = omega (arith, c.loop-number-test.false, c.loop-number.auto.number-end) in
    first_of_all c.args.self.now c.args.block c.args.self.now.shape.clients c.loop-number.first c.loop-number.least
    (subst (λ (n : ℕ). LeastOf c.args.self.now c.args.block n c.loop-number.first c.loop-number.least) all c.loop-number.invariant)
