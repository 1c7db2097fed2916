use Rattle.tl_protocol_lanes.proofs.Logs.{empty_is_lawful, lawful_grows_by_one, interleaves, lanes_grow_by_one, first_heads_its_list, messages_fit_their_channels}
use Rattle.tl_protocol_lanes.proofs.First.{every_first_is_first}
use Rattle.tl_protocol_lanes.proofs.Whole.{first_is_whole}
use Rattle.tl_protocol_lanes.proofs.laws.every_lawful_log.Goals as goal

pub returns-clause-empty : goal.returns-clause-empty
returns-clause-empty c = empty_is_lawful

pub returns-clause-grows : goal.returns-clause-grows
returns-clause-grows c = lawful_grows_by_one

pub returns-clause-interleaves : goal.returns-clause-interleaves
returns-clause-interleaves c = interleaves

pub returns-clause-lanes : goal.returns-clause-lanes
returns-clause-lanes c = lanes_grow_by_one

pub returns-clause-first : goal.returns-clause-first
returns-clause-first c = first_heads_its_list

pub returns-clause-kinds : goal.returns-clause-kinds
returns-clause-kinds c = messages_fit_their_channels

pub returns-clause-begins : goal.returns-clause-begins
returns-clause-begins c = every_first_is_first

pub returns-clause-whole : goal.returns-clause-whole
returns-clause-whole c = first_is_whole
