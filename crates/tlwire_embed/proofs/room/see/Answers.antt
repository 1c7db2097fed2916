use Rattle.std.proofs.Common.{◌≡◌, ◌≢◌, Option, Some, refl, subst, sym}
use Rattle.tlwire_embed.specs.Opens.{SeesOn, SeesRoom}
use Rattle.tlwire_embed.specs.Sees.{Sees}
use Rattle.tlwire_embed.specs.declared.bench.PinsBench.{PinsBench}
use Rattle.tlwire_embed.specs.declared.line.PinsLine.{PinsLine}
use Rattle.tlwire_embed.specs.declared.room.PinsRoom.{PinsRoom}
use Rattle.tlwire_embed.specs.declared.verdict.PinsVerdict.{PinsVerdict}
use Rattle.tlwire_embed.proofs.room.see.Goals as goal

-- an open judge goes on
goes : (bench next : PinsBench) (old : PinsRoom) (l : PinsLine) (told : PinsVerdict) → old.bench ≡ Some bench → l.what ≢ 255
    → Sees bench l next told → SeesRoom old l (record old { bench = Some next }) told
goes bench next old l told was other sees =
    subst (λ (o : Option PinsBench). SeesOn o old l (record old { bench = Some next }) told) (sym was)
    ((λ closes. absurd (other closes)), (λ on. record { next = next; is = refl; sees = sees }))

pub returns-then-seen-ne255 : goal.returns-then-seen-ne255
returns-then-seen-ne255 c =
    goes c.in-Some.bench c.see.new.self c.args.room.now c.args.seen.now c.see.result c.in-Some.is c.if-seen-ne255.true c.see.ensures
