use Rattle.tlcheck_record.proofs.ReadBack.{entry_read, event_read}
use Rattle.tlcheck_record.proofs.written.lines_are_read_back.Goals as goal

pub returns-clause-entry : goal.returns-clause-entry
returns-clause-entry c = entry_read

pub returns-clause-event : goal.returns-clause-event
returns-clause-event c = event_read
