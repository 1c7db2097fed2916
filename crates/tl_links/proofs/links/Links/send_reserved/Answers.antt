use Rattle.std.proofs.Common.{◌≡◌, ◌≢◌, ◌<◌, ◌%◌, ◌∙◌, ℕ, length, ap, arith}
use Rattle.tl_types.specs.Lane.{Lane, with_message}
use Rattle.tl_types.specs.declared.limits.TheConstants.{MESSAGES}
use Rattle.tl_links.specs.Table.{LinkTable, lane_in}
use Rattle.tl_links.proofs.Counts.{IsCounted-sent, lane-read, number-most}
use Rattle.tl_links.proofs.Endings.{IsCountedByEnding-sent, ending-most}
use Rattle.tl_links.proofs.links.Links.send_reserved.Goals as goal

pub overflow_add-self : goal.overflow_add-self
overflow_add-self c = rw c.index.ensures.value (omega (arith, number-most c.self.invariant.0 c.args.channel))

pub invariant_of-self : goal.invariant_of-self
invariant_of-self c =
    let x = c.args.client in
    let k = c.args.channel in
    let t : LinkTable =
    record { bank = c.self.inside.bank; clients = c.self.inside.clients; lanes = c.self.inside.queues.items } in
    let known : x < c.self.inside.clients = rw (← c.self.view_is) at c.requires.here in
    let lane : c.index_mut.result.now ≡ lane_in t x k =
    lane-read c.self.invariant.0 x k c.place.result c.index_mut.result.now known c.place.ensures
    c.index_mut.ensures.value in
    let below : length (lane_in t x k).messages < MESSAGES = rw (← c.self.view_is) at c.requires.room in
    let room : length (lane_in t x k).messages ≢ MESSAGES = λ full. omega (arith, below, full) in
    let new : c.push.new.self ≡ with_message (lane_in t x k) c.args.message =
    c.push.ensures ∙ ap (λ (l : Lane). with_message l c.args.message) lane in
    rw (c.place.ensures, c.index.ensures.value, c.place_by_ending-kind.ensures) (
      IsCounted-sent c.self.invariant.0 x k c.args.message c.push.new.self known new room,
      IsCountedByEnding-sent c.self.invariant.0 c.self.invariant.1 x k c.args.message c.push.new.self known new,
    )

pub overflow_add-self-2 : goal.overflow_add-self-2
overflow_add-self-2 c =
    let ending : ℕ = c.args.message.block % 16 in
    let few : ending < 16 = omega arith in
    rw c.place_by_ending-kind.ensures
    (omega (arith, ending-most c.self.invariant.0 c.self.invariant.1 c.args.channel ending few))
