use Rattle.tl_protocol_lanes.proofs.Events.{every_event_moves_its_lists, every_event_is_of_one_client, every_such_event_leaves_home}
use Rattle.tl_protocol_lanes.proofs.laws.every_event.Goals as goal

pub returns-clause-lists : goal.returns-clause-lists
returns-clause-lists c = every_event_moves_its_lists

pub returns-clause-others : goal.returns-clause-others
returns-clause-others c = every_event_is_of_one_client

pub returns-clause-home : goal.returns-clause-home
returns-clause-home c = every_such_event_leaves_home
