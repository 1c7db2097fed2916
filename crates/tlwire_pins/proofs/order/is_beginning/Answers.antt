use Rattle.std.proofs.Common.{map, arith, rules}
use Rattle.std.proofs.lemmas.List.{length-map}
use Rattle.std.specs.Borrow.{Bor}
use Rattle.tlwire_search.specs.declared.seen.Seen.{Seen}
use Rattle.tlwire_pins.proofs.Ordered.{beginning, same_more}
use Rattle.tlwire_pins.proofs.order.is_beginning.Goals as goal

pub loop-place-preserved : goal.loop-place-preserved
loop-place-preserved c =
    same_more c.args.some.now c.args.all.now c.loop-place.place c.index-some-place.result c.index-all-place.result (omega arith) (omega arith)
    c.index-some-place.is c.index-all-place.is ((c.is_same.ensures).0 (search rules)) c.loop-place.invariant

pub returns : goal.returns
returns c = λ yes.
    beginning (map (λ (x : Bor Seen). x.now) c.args.some.now) (map (λ (x : Bor Seen). x.now) c.args.all.now) c.loop-place.place
    (omega (arith, length-map c.args.some.now (λ (x : Bor Seen). x.now))) c.loop-place.invariant
