use Rattle.std.proofs.Common.{◌≡◌, ℕ, ◌+◌, List, refl, sym, ◌∙◌, ap, subst, arith}
use Rattle.tl_trace.specs.NetworkState.{NetworkState}
use Rattle.tl_embed.specs.Saw.{StoresUpTo, is_stored}
use Rattle.tl_embed.specs.Seen.{bytes_seen}
use Rattle.tl_embed.proofs.Stored.{skipped-next, stored-next}
use Rattle.tl_embed.proofs.stores.Inferred.make.Goals as goal
use Rattle.tl_embed.proofs.stores.Inferred.make.Goals.{then-is_stored+else-told-ne0, else-is_stored}

-- one place more, whose store was done or not wanted
pub loop-place-preserved : goal.loop-place-preserved
loop-place-preserved c =
    let place : ℕ = c.loop-place.place in
    let test : is_stored c.args.self.now (bytes_seen c.args.seen.now) place ≡ c.is_stored.result =
    ap (λ (bytes : List ℕ). is_stored c.args.self.now bytes place) (sym c.bytes.ensures) ∙ sym c.is_stored.ensures in
    elim c.if-is_stored.branch [
      | then-is_stored+else-told-ne0 w ↦ (
        subst (λ (x : NetworkState). StoresUpTo c.args.self.now c.args.seen.now (place + 1) c.args.network.now x c.if-is_stored.made) (sym w.network-is)
            (subst (λ (n : ℕ). StoresUpTo c.args.self.now c.args.seen.now (place + 1) c.args.network.now w.store-told.new.network n) (sym w.made-is)
            (stored-next c.args.self.now c.args.seen.now place c.args.network.now c.loop-place.network w.store-told.new.network c.loop-place.made
            w.store-told.result c.loop-place.invariant.0 (test ∙ w.if-is_stored.true) w.store-told.ensures.asked w.if-told-ne0.false)),
        omega (arith, w.made-is, c.loop-place.invariant.1),
      )
      | else-is_stored w ↦ (
        subst (λ (x : NetworkState). StoresUpTo c.args.self.now c.args.seen.now (place + 1) c.args.network.now x c.if-is_stored.made) (sym w.network-is)
            (subst (λ (n : ℕ). StoresUpTo c.args.self.now c.args.seen.now (place + 1) c.args.network.now c.loop-place.network n) (sym w.made-is)
            (skipped-next c.args.self.now c.args.seen.now place c.args.network.now c.loop-place.network c.loop-place.made c.loop-place.invariant.0
            (test ∙ w.if-is_stored.false))),
        omega (arith, w.made-is, c.loop-place.invariant.1),
      )
    ]

-- a store that was not done: those before it stay, and it changed nothing
pub returns-then-told-ne0 : goal.returns-then-told-ne0
returns-then-told-ne0 c =
    let place : ℕ = c.loop-place.place in
    let test : is_stored c.args.self.now (bytes_seen c.args.seen.now) place ≡ c.is_stored.result =
    ap (λ (bytes : List ℕ). is_stored c.args.self.now bytes place) (sym c.bytes.ensures) ∙ sym c.is_stored.ensures in (
      place,
      c.loop-place.made,
      c.loop-place.network,
      c.loop-place.invariant.0,
      record {
        below = c.loop-place-test.true;
        wanted = test ∙ c.if-is_stored.true;
        last = c.store-told.result;
        asked = c.store-told.ensures.asked;
        refused = c.if-told-ne0.true;
        same = c.store-told.ensures.refused c.if-told-ne0.true;
        tells = refl;
      },
    )
