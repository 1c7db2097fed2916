use Rattle.std.proofs.Common.{sym, ◌∙◌}
use Rattle.tl_bank_rest.proofs.Takes.{taken_ack}
use Rattle.tl_bank_rest.proofs.next.next_on_d.Goals as goal

pub returns-else-is_grant : goal.returns-else-is_grant
returns-else-is_grant c =
    taken_ack c.args.bank.now c.args.ticket (record { block = c.requires.head.0; body = c.args.body.now }) c.requires.head.1
    (sym c.is_grant.ensures ∙ c.if-is_grant.false)
