use Rattle.tl_bank_spec.proofs.Delivered.{every_message_sent_waits, every_message_taken_is_first}
use Rattle.tl_bank_spec.proofs.Named.{every_ticket_names_the_first}
use Rattle.tl_bank_spec.proofs.laws.every_ticket.Goals as goal

pub returns-clause-sends : goal.returns-clause-sends
returns-clause-sends c = every_message_sent_waits

pub returns-clause-takes : goal.returns-clause-takes
returns-clause-takes c = every_message_taken_is_first

pub returns-clause-names : goal.returns-clause-names
returns-clause-names c = every_ticket_names_the_first
