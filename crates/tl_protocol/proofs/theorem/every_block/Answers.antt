use Rattle.tl_protocol.proofs.Coherent.{every_run_keeps_sizes}
use Rattle.tl_protocol.proofs.Pending.{every_run_keeps_messages, every_message_leads_down, every_answer_is_within, every_run_keeps_service}
use Rattle.tl_protocol.proofs.Probes.{every_answer_is_to_its_probe, last_probe_grows_by_one}
use Rattle.tl_protocol.proofs.theorem.every_block.Goals as goal

pub returns-clause-sizes : goal.returns-clause-sizes
returns-clause-sizes c = every_run_keeps_sizes

pub returns-clause-messages : goal.returns-clause-messages
returns-clause-messages c = every_run_keeps_messages

pub returns-clause-service : goal.returns-clause-service
returns-clause-service c = every_run_keeps_service

pub returns-clause-downward : goal.returns-clause-downward
returns-clause-downward c = every_message_leads_down

pub returns-clause-answers : goal.returns-clause-answers
returns-clause-answers c = every_answer_is_within

pub returns-clause-probes : goal.returns-clause-probes
returns-clause-probes c = every_answer_is_to_its_probe

pub returns-clause-last_probe : goal.returns-clause-last_probe
returns-clause-last_probe c = last_probe_grows_by_one
