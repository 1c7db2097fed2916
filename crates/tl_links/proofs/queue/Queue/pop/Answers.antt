use Rattle.std.proofs.Common.{◌≡◌, ◌∷◌, ◌∙◌, List, Option, ℕ, ap, subst, sym}
use Rattle.std.specs.List.{cons_option}
use Rattle.std.specs.VecDeque.{deque_capacity}
use Rattle.tl_types.specs.Lane.{Lane}
use Rattle.tl_types.specs.declared.message.Message.{Message}
use Rattle.tl_links.specs.Keys.{in_order, IsSound}
use Rattle.tl_links.proofs.KeyLaws.{lane_of, IsSound-rest, lane-rest}
use Rattle.tl_links.proofs.queue.Queue.pop.Goals as goal

pub invariant_of-self-2 : goal.invariant_of-self-2
invariant_of-self-2 c =
    let q = c.self.inside in
    let sound : IsSound q.taken q.messages (c.in_ok-key.key ∷ c.pop_front.new.self.items) (deque_capacity q.order) =
    subst (λ (keys : List ℕ). IsSound q.taken q.messages keys (deque_capacity q.order)) c.in_ok-key.ensures.items c.self.invariant in
    let e = c.remove.ensures in
    rw (c.in_ok-key.ensures.capacity)
    (IsSound-rest sound c.remove.new.self e.updates e.len e.capacity)

pub returns-clause-value : goal.returns-clause-value
returns-clause-value c =
    let q = c.self.inside in
    let rest : List Message = in_order q.messages c.pop_front.new.self.items in
    let view : lane_of q.taken q.messages (c.in_ok-key.key ∷ c.pop_front.new.self.items) ≡ c.args.self.now =
    subst (λ (keys : List ℕ). lane_of q.taken q.messages keys ≡ c.args.self.now) c.in_ok-key.ensures.items c.self.view_is in (
      rest,
      sym (ap (λ (l : Lane). l.messages) view)
          ∙ ap (λ (slot : Option Message). cons_option slot rest) c.remove.ensures.value,
    )

pub returns-clause-after : goal.returns-clause-after
returns-clause-after c =
    let q = c.self.inside in
    let sound : IsSound q.taken q.messages (c.in_ok-key.key ∷ c.pop_front.new.self.items) (deque_capacity q.order) =
    subst (λ (keys : List ℕ). IsSound q.taken q.messages keys (deque_capacity q.order)) c.in_ok-key.ensures.items c.self.invariant in
    let view : lane_of q.taken q.messages (c.in_ok-key.key ∷ c.pop_front.new.self.items) ≡ c.args.self.now =
    subst (λ (keys : List ℕ). lane_of q.taken q.messages keys ≡ c.args.self.now) c.in_ok-key.ensures.items c.self.view_is in
    lane-rest sound c.remove.new.self c.args.self.now view c.remove.ensures.updates
