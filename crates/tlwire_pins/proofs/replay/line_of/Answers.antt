use Rattle.tlwire_pins.proofs.Replayed.{ack_line, grant_line}
use Rattle.tlwire_pins.proofs.replay.line_of.Goals as goal

pub returns-in_ok-block-in-TakeGrant : goal.returns-in_ok-block-in-TakeGrant
returns-in_ok-block-in-TakeGrant c =
    grant_line c.args.plain.now c.in-TakeGrant.c c.in-TakeGrant.block c.number.result _ c.taken_of.result c.args.event.now c.in-TakeGrant.is c.number.ensures
    c.in_ok-block-in-TakeGrant.ensures.state.1 c.taken_of.ensures

pub returns-in_ok-block-in-TakeReleaseAck : goal.returns-in_ok-block-in-TakeReleaseAck
returns-in_ok-block-in-TakeReleaseAck c =
    ack_line c.args.plain.now c.in-TakeReleaseAck.c c.in-TakeReleaseAck.block c.number-in-TakeReleaseAck.result _ c.taken_of-in-TakeReleaseAck.result c.args.event.now
    c.in-TakeReleaseAck.is c.number-in-TakeReleaseAck.ensures c.in_ok-block-in-TakeReleaseAck.ensures.state.1 c.taken_of-in-TakeReleaseAck.ensures
