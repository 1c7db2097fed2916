use Rattle.std.proofs.Common.{subst}
use Rattle.tl_map.specs.Limits.{IsLawful}
use Rattle.tl_map.specs.Numbers.{Numbers}
use Rattle.tl_bank_spec.specs.View.{View}
use Rattle.tl_bank_rest.proofs.Quiet.{quiet-is}
use Rattle.tl_bank_rest.proofs.Takes.{taken_on_a}
use Rattle.tl_bank_rest.proofs.next.next_acquire.Goals as goal

pub returns-in_err-ticket-clause-quiet : goal.returns-in_err-ticket-clause-quiet
returns-in_err-ticket-clause-quiet c = λ none.
    quiet-is c.args.bank.now c.log-log.ensures.lawful c.registers-registers.ensures.agree c.open_blocks-serves.ensures.serves
    c.requires.closed c.requires.silent (c.head.ensures.none c.in_err-ticket.was)

pub returns-clause-taken : goal.returns-clause-taken
returns-clause-taken c =
    let v : View = c.args.bank.now in
    let lawful : IsLawful v.geometry = subst (λ (g : Numbers). IsLawful g) c.geometry.ensures c.clients-clients.ensures.lawful in
    taken_on_a v c.in_ok-ticket.ticket c.in_ok-ticket.field-0-1 c.requires.closed lawful c.in_ok-ticket.ensures.found
