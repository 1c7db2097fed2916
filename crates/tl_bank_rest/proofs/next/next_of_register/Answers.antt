use Rattle.tl_bank_spec.specs.HomeCalls.{advance_cases}
use Rattle.tl_bank_rest.proofs.Acting.{oldest-advances}
use Rattle.tl_bank_rest.proofs.Cases.{not-refused}
use Rattle.tl_bank_rest.proofs.next.next_of_register.Goals as goal

pub returns : goal.returns
returns c =
    not-refused (advance_cases c.args.bank.now c.args.register.now.own)
    (oldest-advances c.args.bank.now c.args.register.now c.requires.oldest.0 c.requires.oldest.1 c.log-log.ensures.lawful
    c.registers-registers.ensures.agree c.registers-registers.ensures.own c.requires.silent
    (c.next_at_memory.ensures.none c.in_default.is) (c.next_of_victim.ensures.none c.in_default-next_of_victim.is))
