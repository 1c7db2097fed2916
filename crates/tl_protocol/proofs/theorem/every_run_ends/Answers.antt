use Rattle.tl_protocol.proofs.Work.{every_receiving_event_lowers, every_run_owes, every_run_ends}
use Rattle.tl_protocol.proofs.theorem.every_run_ends.Goals as goal

pub returns-clause-lowers : goal.returns-clause-lowers
returns-clause-lowers c = every_receiving_event_lowers

pub returns-clause-owes : goal.returns-clause-owes
returns-clause-owes c = every_run_owes

pub returns-clause-ends : goal.returns-clause-ends
returns-clause-ends c = every_run_ends
