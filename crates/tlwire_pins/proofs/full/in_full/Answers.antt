use Rattle.std.proofs.Common.{◌≡◌, ◌++◌, ◌∷◌, ◌+◌, [], List, take, sym, subst, ◌∙◌, ap, arith}
use Rattle.tlwire_search.specs.Premises.{drops}
use Rattle.tlwire_search.specs.declared.seen.Seen.{Seen}
use Rattle.tlwire_pins.specs.Drops.{IsInFull}
use Rattle.tlwire_pins.proofs.InFull.{full_more}
use Rattle.tlwire_pins.proofs.Walk.{take_one}
use Rattle.tlwire_pins.proofs.full.in_full.Goals as goal

pub loop-line-preserved : goal.loop-line-preserved
loop-line-preserved c =
    let before : List Seen = take c.loop-line.line-index c.args.seen.now in
    let same : before ++ c.line-item.result ∷ [] ≡ take (c.loop-line.line-index + 1) c.args.seen.now =
    ap (λ (z : Seen). before ++ z ∷ []) c.line-item.is ∙ sym (take_one c.args.seen.now c.loop-line.line-index c.line-item.result (omega arith)) in
    subst (λ (xs : List Seen). IsInFull (drops c.args.premises.now) xs c.tell.new.full.items) same
    (subst (λ (xs : List Seen). IsInFull (drops c.args.premises.now) (before ++ c.line-item.result ∷ []) xs) (sym c.in_ok-tell.ensures)
    (full_more (drops c.args.premises.now) before c.loop-line.full.items c.line-item.result c.in_ok-release.release c.in_ok-release.ensures c.loop-line.invariant))
