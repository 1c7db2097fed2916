use Rattle.std.proofs.Common.{◌<◌, length, set, refl, ap, subst, arith}
use Rattle.tl_trace.specs.NetworkState.{IsForgotten, NetworkState}
use Rattle.tl_trace.proofs.Places.{forgotten-at}
use Rattle.tl_trace.proofs.network.Network.forget.Goals as goal

-- the bank that forgot is back in its place
pub returns : goal.returns
returns c =
    let old : NetworkState = record {
      geometry = c.self.inside.geometry;
      shared_banks = c.self.inside.shared_banks.items;
      clocks = c.self.inside.clocks.items;
    } in
    let new : NetworkState = record old { shared_banks = set old.shared_banks c.index.result c.forget.new.self } in
    let banks = ap (λ (s : NetworkState). s.geometry.banks) c.self.view_is in
    let inside : c.index.result < length old.shared_banks = omega (arith, c.index.ensures, c.requires, c.self.invariant, banks) in
    subst (λ (s : NetworkState). IsForgotten c.args.bank s new) c.self.view_is
    (subst (λ n. IsForgotten n old new) c.index.ensures
    (forgotten-at c.index.result old new c.index_mut.result.now _ c.forget.new.self inside c.index_mut.ensures.value c.forget.ensures.forgets
    c.forget.ensures.shares refl))
