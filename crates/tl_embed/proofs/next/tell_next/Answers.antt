use Rattle.tl_embed.proofs.Nexts.{call-next, none-next}
use Rattle.tl_embed.proofs.next.tell_next.Goals as goal

-- the call, whose numbers name it
pub returns-in-Some : goal.returns-in-Some
returns-in-Some c =
    call-next c.args.bank.now c.tell_call.new.told c.next_call.result c.in-Some.call c.next_call.ensures.quiet c.in-Some.is
    c.in-Some.ensures.taken c.tell_call.ensures

-- or that there is none
pub returns-in-None : goal.returns-in-None
returns-in-None c =
    none-next c.args.bank.now c.set_status.new.self c.next_call.result c.next_call.ensures.quiet c.in-None.is c.set_status.ensures
