use Rattle.tl_bank_rest.proofs.Takes.{taken_on_b}
use Rattle.tl_bank_rest.proofs.next.next_probe.Goals as goal

pub returns-clause-taken : goal.returns-clause-taken
returns-clause-taken c =
    taken_on_b c.args.bank.now c.in_ok-ticket.ticket c.in_ok-ticket.field-0-1 c.log-log.ensures.lawful c.in_ok-ticket.ensures.found
    c.requires.answered c.requires.granted
