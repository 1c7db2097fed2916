use Rattle.std.proofs.Common.{◌≡◌}
use Rattle.std.specs.List.{list_any}
use Rattle.std.specs.VecDeque.Iter.{deque_iter_rest}
use Rattle.tl_types.specs.Lane.{bodies_of}
use Rattle.tl_links.specs.Wanted.{is_wanted}
use Rattle.tl_links.specs.Keys.{in_order}
use Rattle.tl_links.proofs.queue.Queue.has.Given as goal

abbrev pub invariant-loop-key : goal.invariant-loop-key
invariant-loop-key l =
    (goal.iterator-loop-key).can_next l.key-iterator ×
    (goal.iterator-loop-key).is_finite l.key-iterator ×
    (list_any (is_wanted l.wanted) (bodies_of l.block (in_order l.self-inside.messages l.self-inside.order.items))
    ≡ list_any (is_wanted l.wanted) (bodies_of l.block (in_order l.self-inside.messages (deque_iter_rest l.key-iterator))))
