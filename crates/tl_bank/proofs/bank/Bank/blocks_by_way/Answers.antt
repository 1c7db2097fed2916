use Rattle.std.proofs.Common.{◌≡◌, ℕ, ◌+◌, ◌*◌, ◌<◌, List, ◌++◌, ◌∷◌, [], Option, sym, ◌∙◌, ap, subst, arith, mod-lt, div-add-mod'}
use Rattle.tl_bank_spec.specs.View.{View}
use Rattle.tl_bank_laws.specs.Means.{Means}
use Rattle.tl_bank_laws.specs.Found.{AreFound}
use Rattle.tl_bank.specs.Shown.{layers}
use Rattle.tl_bank_laws.proofs.AtHome.{found-first, found-next, with_one, all-found}
use Rattle.tl_bank.proofs.bank.Bank.blocks_by_way.Goals as goal
use Rattle.tl_bank.proofs.bank.Bank.blocks_by_way.Goals.{in-Some, in_default}

pub loop-place-init : goal.loop-place-init
loop-place-init c =
    subst (λ (xs : List ℕ). AreFound c.args.self.now 0 xs) (sym c.new-blocks.ensures) (found-first c.args.self.now)

pub loop-place-preserved : goal.loop-place-preserved
loop-place-preserved c =
    let m : Means c.args.self.now (layers c.self.inside) =
    subst (λ (v : View). Means v (layers c.self.inside)) c.self.view_is c.self.invariant in
    let place : ℕ = c.loop-place.place in
    let count : ℕ = c.ways-ways.result in
    let ways : count ≡ c.args.self.now.geometry.ways =
    c.ways-ways.ensures.is ∙ ap (λ (v : View). v.geometry.ways) c.self.view_is in
    let least = m.geometry.ways.least in
    let some : 0 < count = omega (arith, least, ways) in
    let way : c.new-in-loop-place.result < c.args.self.now.geometry.ways =
    rw (c.new-in-loop-place.ensures, ← ways) (mod-lt place some) in
    let at : c.new.result * c.args.self.now.geometry.ways + c.new-in-loop-place.result ≡ place =
    rw (c.new.ensures, c.new-in-loop-place.ensures, ← ways) (div-add-mod' place count) in
    let next = found-next c.args.self.now (layers c.self.inside) c.new.result c.new-in-loop-place.result place
    c.loop-place.blocks.items c.block_in.result m way at c.block_in.ensures c.loop-place.invariant in
    let found : List ℕ = c.loop-place.blocks.items in
    elim c.match-block_in.branch [
      | in-Some w ↦
          let one : with_one found c.block_in.result ≡ found ++ w.in-Some.block ∷ [] = ap (λ (o : Option ℕ). with_one found o) w.in-Some.is in
          let same : with_one found c.block_in.result ≡ c.match-block_in.blocks.items = one ∙ (sym w.push.ensures.items ∙ (cc)) in
          subst (λ (xs : List ℕ). AreFound c.args.self.now (place + 1) xs) same next
      | in_default w ↦
          let one : with_one found c.block_in.result ≡ found = ap (λ (o : Option ℕ). with_one found o) w.in_default.is in
          let same : with_one found c.block_in.result ≡ c.match-block_in.blocks.items = one ∙ (cc) in
          subst (λ (xs : List ℕ). AreFound c.args.self.now (place + 1) xs) same next
    ]

pub returns : goal.returns
returns c =
    let m : Means c.args.self.now (layers c.self.inside) =
    subst (λ (v : View). Means v (layers c.self.inside)) c.self.view_is c.self.invariant in
    let end : c.loop-place.place ≡ c.sets.result * c.ways-ways.result =
    omega (arith, c.loop-place-test.false, c.loop-place.auto.place-end) in
    let all : c.loop-place.place ≡ c.args.self.now.geometry.sets * c.args.self.now.geometry.ways =
    end ∙ ap (λ (n : ℕ). n * c.ways-ways.result) c.sets.ensures.is
    ∙ ap (λ (n : ℕ). c.self.inside.geometry.sets * n) c.ways-ways.ensures.is
    ∙ ap (λ (v : View). v.geometry.sets * v.geometry.ways) c.self.view_is in
    all-found c.args.self.now (layers c.self.inside) c.loop-place.blocks.items m
    (subst (λ (n : ℕ). AreFound c.args.self.now n c.loop-place.blocks.items) all c.loop-place.invariant)
