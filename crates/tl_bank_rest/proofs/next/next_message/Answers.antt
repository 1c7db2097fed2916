use Rattle.tl_bank_rest.proofs.next.next_message.Goals as goal

pub next_on_d-requires-clause-head : goal.next_on_d-requires-clause-head
next_on_d-requires-clause-head c = (c.in-Some-head.message.block, c.in-Some-head.ensures.found)
