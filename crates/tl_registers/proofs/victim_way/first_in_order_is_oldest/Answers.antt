use Rattle.tl_registers.proofs.Order.{first-in-order-is-oldest, free-set-is-in-order, grant-keeps-order, other-events-keep-order, placing-keeps-order, clearing-keeps-order}
use Rattle.tl_registers.proofs.victim_way.first_in_order_is_oldest.Goals as goal

pub returns : goal.returns
returns c = record {
  oldest = first-in-order-is-oldest;
  made = free-set-is-in-order;
  grant = grant-keeps-order;
  other_event = other-events-keep-order;
  place = placing-keeps-order;
  clear = clearing-keeps-order;
}
