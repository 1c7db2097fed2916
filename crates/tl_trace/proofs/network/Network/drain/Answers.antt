use Rattle.std.proofs.Common.{◌≡◌, ◌<◌, length, set, refl, ap, subst, arith}
use Rattle.std.specs.Prelude.{MatchResult}
use Rattle.tl_bank_spec.specs.Views.{IsQuiet}
use Rattle.tl_bank_spec.specs.declared.refusal.Refusal.TheVariants.{Memory}
use Rattle.tl_trace.specs.NetworkState.{NetworkState}
use Rattle.tl_trace.specs.Rests.{IsCutShort, RestsAt}
use Rattle.tl_trace.proofs.Rests.{rests-at}
use Rattle.tl_trace.proofs.network.Network.drain.Goals as goal

-- the bank that rests is back in its place
pub returns : goal.returns
returns c =
    let old : NetworkState = record {
      geometry = c.self.inside.geometry;
      shared_banks = c.self.inside.shared_banks.items;
      clocks = c.self.inside.clocks.items;
    } in
    let new : NetworkState = record old { shared_banks = set old.shared_banks c.index.result c.drain.new.self } in
    let banks = ap (λ (s : NetworkState). s.geometry.banks) c.self.view_is in
    let inside : c.index.result < length old.shared_banks = omega (arith, c.index.ensures, c.requires, c.self.invariant, banks) in
    subst
    (λ (s : NetworkState). MatchResult c.drain.result (λ count. RestsAt IsQuiet c.args.bank count s new)
    (λ refusal. (refusal ≡ Memory) × IsCutShort c.args.bank s new)) c.self.view_is
    (subst
    (λ n. MatchResult c.drain.result (λ count. RestsAt IsQuiet n count old new) (λ refusal. (refusal ≡ Memory) × IsCutShort n old new))
    c.index.ensures
    (rests-at IsQuiet c.index.result old new c.index_mut.result.now _ c.drain.new.self c.drain.result inside c.index_mut.ensures.value
    c.drain.ensures.takes c.drain.ensures.short c.drain.ensures.quiet refl))
