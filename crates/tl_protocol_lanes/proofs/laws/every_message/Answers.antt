use Rattle.tl_protocol_lanes.proofs.Delivery.{every_message_is_delivered_in_order}
use Rattle.tl_protocol_lanes.proofs.laws.every_message.Goals as goal

pub returns : goal.returns
returns c = every_message_is_delivered_in_order
