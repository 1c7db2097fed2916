use Rattle.tl_bank_rest.proofs.Received.{shares-pass}
use Rattle.tl_bank_rest.proofs.receive.receive.Goals as goal

pub returns-in-TakeGrantAck-clause-shares : goal.returns-in-TakeGrantAck-clause-shares
returns-in-TakeGrantAck-clause-shares c =
    shares-pass c.args.bank.now c.take_grant_ack.new.bank c.args.shares.now c.take_grant_ack.result c.take_grant_ack.ensures.unchanged c.take_grant_ack.ensures.receives
    c.take_grant_ack.ensures.counts c.requires.shares

pub returns-in-TakeReleaseAck-clause-shares : goal.returns-in-TakeReleaseAck-clause-shares
returns-in-TakeReleaseAck-clause-shares c =
    shares-pass c.args.bank.now c.take_release_ack.new.bank c.args.shares.now c.take_release_ack.result c.take_release_ack.ensures.unchanged c.take_release_ack.ensures.receives
    c.take_release_ack.ensures.counts c.requires.shares

pub returns-in-TakeC-clause-shares : goal.returns-in-TakeC-clause-shares
returns-in-TakeC-clause-shares c =
    shares-pass c.args.bank.now c.take_c.new.bank c.args.shares.now c.take_c.result c.take_c.ensures.unchanged c.take_c.ensures.receives
    c.take_c.ensures.counts c.requires.shares

pub returns-in-ServeMemory-clause-shares : goal.returns-in-ServeMemory-clause-shares
returns-in-ServeMemory-clause-shares c =
    shares-pass c.args.bank.now c.serve_memory.new.bank c.args.shares.now c.serve_memory.result c.serve_memory.ensures.unchanged c.serve_memory.ensures.receives
    c.serve_memory.ensures.counts c.requires.shares

pub returns-in-TakeMemory-clause-shares : goal.returns-in-TakeMemory-clause-shares
returns-in-TakeMemory-clause-shares c =
    shares-pass c.args.bank.now c.take_memory.new.bank c.args.shares.now c.take_memory.result c.take_memory.ensures.unchanged c.take_memory.ensures.receives
    c.take_memory.ensures.counts c.requires.shares

pub returns-in-Advance-clause-shares : goal.returns-in-Advance-clause-shares
returns-in-Advance-clause-shares c =
    shares-pass c.args.bank.now c.advance.new.bank c.args.shares.now c.advance.result c.advance.ensures.unchanged c.advance.ensures.receives
    c.advance.ensures.counts c.requires.shares

pub returns-in-Accept-clause-shares : goal.returns-in-Accept-clause-shares
returns-in-Accept-clause-shares c =
    shares-pass c.args.bank.now c.accept.new.bank c.args.shares.now c.accept.result c.accept.ensures.unchanged c.accept.ensures.receives
    c.accept.ensures.counts c.requires.shares
