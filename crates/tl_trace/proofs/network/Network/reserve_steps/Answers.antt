use Rattle.std.proofs.Common.{◌<◌, length, set, refl, ap, subst, arith}
use Rattle.tl_trace.specs.NetworkState.{IsReserved, IsShort, NetworkState}
use Rattle.tl_trace.proofs.Answered.{if-done, if-short}
use Rattle.tl_trace.proofs.Places.{reserved-at, short-at}
use Rattle.tl_trace.proofs.network.Network.reserve_steps.Goals as goal

-- the bank with its room is back in its place
pub returns-clause-room : goal.returns-clause-room
returns-clause-room c =
    let old : NetworkState = record {
      geometry = c.self.inside.geometry;
      shared_banks = c.self.inside.shared_banks.items;
      clocks = c.self.inside.clocks.items;
    } in
    let new : NetworkState = record old { shared_banks = set old.shared_banks c.index.result c.reserve_steps.new.self } in
    let banks = ap (λ (s : NetworkState). s.geometry.banks) c.self.view_is in
    let inside : c.index.result < length old.shared_banks = omega (arith, c.index.ensures, c.requires, c.self.invariant, banks) in
    if-done c.reserve_steps.result _ _
    (λ has. subst (λ (s : NetworkState). IsReserved c.args.bank c.args.count s new) c.self.view_is
    (subst (λ n. IsReserved n c.args.count old new) c.index.ensures
    (reserved-at c.index.result c.args.count old new c.index_mut.result.now _ c.reserve_steps.new.self inside c.index_mut.ensures.value has refl)))
    c.reserve_steps.ensures.room

-- the bank that found no memory is back in its place, as it was
pub returns-clause-short : goal.returns-clause-short
returns-clause-short c =
    let old : NetworkState = record {
      geometry = c.self.inside.geometry;
      shared_banks = c.self.inside.shared_banks.items;
      clocks = c.self.inside.clocks.items;
    } in
    let new : NetworkState = record old { shared_banks = set old.shared_banks c.index.result c.reserve_steps.new.self } in
    let banks = ap (λ (s : NetworkState). s.geometry.banks) c.self.view_is in
    let inside : c.index.result < length old.shared_banks = omega (arith, c.index.ensures, c.requires, c.self.invariant, banks) in
    if-short c.reserve_steps.result _ _ _
    (λ same less. subst (λ (s : NetworkState). IsShort c.args.bank c.args.count s new) c.self.view_is
    (subst (λ n. IsShort n c.args.count old new) c.index.ensures
    (short-at c.index.result c.args.count old new c.index_mut.result.now _ c.reserve_steps.new.self inside c.index_mut.ensures.value same less refl)))
    c.reserve_steps.ensures.unchanged c.reserve_steps.ensures.short
