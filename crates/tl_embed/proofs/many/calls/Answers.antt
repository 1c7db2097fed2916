use Rattle.std.proofs.Common.{◌<◌, min, length, arith}
use Rattle.tl_embed.proofs.InTurn.{ends-early, so-far-next}
use Rattle.tl_embed.proofs.many.calls.Goals as goal

-- one that is refused ends them
pub returns-then-told-ne0 : goal.returns-then-told-ne0
returns-then-told-ne0 c =
    let inside : c.loop-place.place < length c.loop-place.answers =
    omega (arith, c.loop-place-test.true, c.min-most.ensures, c.loop-place.auto.answers) in
    let within : c.loop-place.place < min (length c.args.requests.now) (length c.args.answers.now) =
    omega (arith, c.loop-place-test.true, c.min-most.ensures) in
    ends-early c.args.cache.now c.loop-place.cache c.call_into.new.cache c.args.requests.now c.args.answers.now c.loop-place.answers
    c.loop-place.place _ c.call_into.new.told c.loop-place.invariant inside within c.call_into.ensures c.if-told-ne0.true

-- after one that is done they go on
pub loop-place-preserved : goal.loop-place-preserved
loop-place-preserved c =
    let asked : c.loop-place.place < length c.args.requests.now = omega (arith, c.loop-place-test.true, c.min-most.ensures) in
    let within : c.loop-place.place < length c.args.answers.now = omega (arith, c.loop-place-test.true, c.min-most.ensures) in
    let inside : c.loop-place.place < length c.loop-place.answers = omega (arith, within, c.loop-place.auto.answers) in
    so-far-next c.args.cache.now c.loop-place.cache c.call_into.new.cache c.args.requests.now c.args.answers.now c.loop-place.answers
    c.loop-place.place _ c.call_into.new.told c.loop-place.invariant asked inside within c.call_into.ensures c.if-told-ne0.false
