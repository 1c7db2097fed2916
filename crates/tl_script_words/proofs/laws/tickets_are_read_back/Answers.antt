use Rattle.tl_script_words.proofs.TicketLaws.{ticket_read}
use Rattle.tl_script_words.proofs.laws.tickets_are_read_back.Goals as goal

pub returns : goal.returns
returns c = ticket_read
