use Rattle.std.proofs.Common.{◌≡◌, ◌<◌, ◌≤◌, ◌∙◌, ◌∷◌, length, ap, sym, arith}
use Rattle.tl_types.specs.Lane.{Lane, without_first}
use Rattle.tl_links.specs.Table.{LinkTable, lane_in}
use Rattle.tl_links.proofs.Counts.{IsCounted-taken, lane-read, length-some, number-some}
use Rattle.tl_links.proofs.Endings.{IsCountedByEnding-taken, ending-first}
use Rattle.tl_links.proofs.links.Links.take.Goals as goal

pub overflow_sub-self : goal.overflow_sub-self
overflow_sub-self c =
    let x = c.args.ticket.client in
    let k = c.args.ticket.channel in
    let t : LinkTable =
    record { bank = c.self.inside.bank; clients = c.self.inside.clients; lanes = c.self.inside.queues.items } in
    let known : x < c.self.inside.clients = rw (← c.self.view_is) at c.requires.here in
    let seen : c.queue.result.now ≡ lane_in t x k =
    c.queue.ensures ∙ ap (λ (w : LinkTable). lane_in w x k) (sym c.self.view_is) in
    let some : 1 ≤ length (lane_in t x k).messages =
    length-some (lane_in t x k).messages
    (λ none. c.in_ok-check_first.ensures.waits (ap (λ (l : Lane). l.messages) seen ∙ none)) in
    rw c.index.ensures.value (omega (arith, number-some c.self.invariant.0 x k known))

pub overflow_sub-self-2 : goal.overflow_sub-self-2
overflow_sub-self-2 c =
    let x = c.args.ticket.client in
    let k = c.args.ticket.channel in
    let t : LinkTable =
    record { bank = c.self.inside.bank; clients = c.self.inside.clients; lanes = c.self.inside.queues.items } in
    let known : x < c.self.inside.clients = rw (← c.self.view_is) at c.requires.here in
    let lane : c.index_mut.result.now ≡ lane_in t x k =
    lane-read c.self.invariant.0 x k c.place.result c.index_mut.result.now known c.place.ensures
    c.index_mut.ensures.value in
    let first : (lane_in t x k).messages ≡ c.in-Some.message ∷ c.in-Some.ensures.value.0 =
    ap (λ (l : Lane). l.messages) (sym lane) ∙ c.in-Some.ensures.value.1 in
    rw c.place_by_ending.ensures
    (ending-first c.self.invariant.0 c.self.invariant.1 x k c.in-Some.message c.in-Some.ensures.value.0 known first)

pub invariant_of-self : goal.invariant_of-self
invariant_of-self c =
    let x = c.args.ticket.client in
    let k = c.args.ticket.channel in
    let t : LinkTable =
    record { bank = c.self.inside.bank; clients = c.self.inside.clients; lanes = c.self.inside.queues.items } in
    let known : x < c.self.inside.clients = rw (← c.self.view_is) at c.requires.here in
    let lane : c.index_mut.result.now ≡ lane_in t x k =
    lane-read c.self.invariant.0 x k c.place.result c.index_mut.result.now known c.place.ensures
    c.index_mut.ensures.value in
    let seen : c.queue.result.now ≡ lane_in t x k =
    c.queue.ensures ∙ ap (λ (w : LinkTable). lane_in w x k) (sym c.self.view_is) in
    absurd
    (c.in_ok-check_first.ensures.waits (ap (λ (l : Lane). l.messages) (seen ∙ sym lane) ∙ c.in_default.ensures.value))

pub invariant_of-self-2 : goal.invariant_of-self-2
invariant_of-self-2 c =
    let x = c.args.ticket.client in
    let k = c.args.ticket.channel in
    let t : LinkTable =
    record { bank = c.self.inside.bank; clients = c.self.inside.clients; lanes = c.self.inside.queues.items } in
    let known : x < c.self.inside.clients = rw (← c.self.view_is) at c.requires.here in
    let lane : c.index_mut.result.now ≡ lane_in t x k =
    lane-read c.self.invariant.0 x k c.place.result c.index_mut.result.now known c.place.ensures
    c.index_mut.ensures.value in
    let first : (lane_in t x k).messages ≡ c.in-Some.message ∷ c.in-Some.ensures.value.0 =
    ap (λ (l : Lane). l.messages) (sym lane) ∙ c.in-Some.ensures.value.1 in
    let seen : c.queue.result.now ≡ lane_in t x k =
    c.queue.ensures ∙ ap (λ (w : LinkTable). lane_in w x k) (sym c.self.view_is) in
    let new : c.pop.new.self ≡ without_first (lane_in t x k) =
    c.pop.ensures.after ∙ ap (λ (l : Lane). without_first l) lane in
    rw (c.place.ensures, c.index.ensures.value, c.place_by_ending.ensures) (
      IsCounted-taken c.self.invariant.0 x k c.pop.new.self known new
          (λ none. c.in_ok-check_first.ensures.waits (ap (λ (l : Lane). l.messages) seen ∙ none)),
      IsCountedByEnding-taken c.self.invariant.0 c.self.invariant.1 x k c.in-Some.message c.in-Some.ensures.value.0
          c.pop.new.self known first new,
    )
