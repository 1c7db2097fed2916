use Rattle.std.proofs.Common.{◌<◌, length, set, ap, ◌∙◌, arith}
use Rattle.tl_bank_spec.specs.View.{shape_of}
use Rattle.tl_embed.specs.Events.{event_told}
use Rattle.tl_embed.proofs.InTurn.{told-next}
use Rattle.tl_embed.proofs.many.tell_events.Goals as goal

-- one event more
pub loop-place-preserved : goal.loop-place-preserved
loop-place-preserved c =
    let inside : c.loop-place.place < length c.args.log.now = omega (arith, c.loop-place-test.true, c.min-most.ensures) in
    let within : c.loop-place.place < length c.args.events.now = omega (arith, c.loop-place-test.true, c.min-most.ensures) in
    ap (λ told. set c.loop-place.events c.loop-place.place told)
    (c.tell_event.ensures ∙ ap (event_told (shape_of c.args.geometry)) c.index-log-place.is)
    ∙ told-next (event_told (shape_of c.args.geometry)) c.args.log.now c.args.events.now c.loop-place.events c.loop-place.place
    c.index-log-place.result inside within c.loop-place.invariant
