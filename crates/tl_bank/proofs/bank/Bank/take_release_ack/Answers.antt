use Rattle.std.proofs.Common.{◌≡◌, ◌∙◌, None, refl, sym, subst}
use Rattle.tl_types.specs.declared.channel.Channel.TheVariants.{D}
use Rattle.tl_protocol.specs.declared.copy.CachedCopy.{CachedCopy}
use Rattle.tl_bank_spec.specs.Calls.{take_release_ack_cases}
use Rattle.tl_bank_spec.specs.Cases.{block_named}
use Rattle.tl_bank_spec.specs.Refusal.{first_of}
use Rattle.tl_bank_spec.specs.View.{View, client_at}
use Rattle.tl_bank.specs.Shown.{shown, layers}
use Rattle.tl_bank_laws.proofs.ReleaseAcks.{Acks, ack-ends, ack-keeps, ack-place}
use Rattle.tl_bank.proofs.bank.Bank.take_release_ack.Goals as goal

pub end_wait-requires-clause-client : goal.end_wait-requires-clause-client
end_wait-requires-clause-client c =
    let v : View = shown c.self.inside in
    let h = layers c.self.inside in
    let copy : CachedCopy = (client_at v c.args.ticket.client c.in_ok-block.block).held in
    let Shows : View → Type 0 =
    λ w. (first_of (take_release_ack_cases w c.args.ticket) ≡ None) × (c.in_ok-block.block ≡ block_named w c.args.ticket D) in
    let shows : Shows v =
    subst Shows (sym (c.self.view_is ∙ c.make_room.ensures.same)) (c.in_ok-block.ensures.permitted, c.in_ok-block.ensures.block) in
    let acks : Acks v c.args.ticket c.in_ok-block.block copy = record { allowed = shows.0; block_is = shows.1; copy_is = refl } in
    (ack-place v h c.args.ticket c.in_ok-block.block copy c.self.invariant acks).client

pub end_wait-requires-clause-block : goal.end_wait-requires-clause-block
end_wait-requires-clause-block c =
    let v : View = shown c.self.inside in
    let h = layers c.self.inside in
    let copy : CachedCopy = (client_at v c.args.ticket.client c.in_ok-block.block).held in
    let Shows : View → Type 0 =
    λ w. (first_of (take_release_ack_cases w c.args.ticket) ≡ None) × (c.in_ok-block.block ≡ block_named w c.args.ticket D) in
    let shows : Shows v =
    subst Shows (sym (c.self.view_is ∙ c.make_room.ensures.same)) (c.in_ok-block.ensures.permitted, c.in_ok-block.ensures.block) in
    let acks : Acks v c.args.ticket c.in_ok-block.block copy = record { allowed = shows.0; block_is = shows.1; copy_is = refl } in
    (ack-place v h c.args.ticket c.in_ok-block.block copy c.self.invariant acks).inside

pub invariant_of-self : goal.invariant_of-self
invariant_of-self c =
    let v : View = shown c.self.inside in
    let h = layers c.self.inside in
    let copy : CachedCopy = (client_at v c.args.ticket.client c.in_ok-block.block).held in
    let Shows : View → Type 0 =
    λ w. (first_of (take_release_ack_cases w c.args.ticket) ≡ None) × (c.in_ok-block.block ≡ block_named w c.args.ticket D) in
    let shows : Shows v =
    subst Shows (sym (c.self.view_is ∙ c.make_room.ensures.same)) (c.in_ok-block.ensures.permitted, c.in_ok-block.ensures.block) in
    let acks : Acks v c.args.ticket c.in_ok-block.block copy = record { allowed = shows.0; block_is = shows.1; copy_is = refl } in
    rw (c.append.ensures.events, c.append.ensures.forgotten)
    (ack-keeps v h c.args.ticket c.in_ok-block.block copy c.append.new.self.room c.discard.new.links c.end_wait.new.copies
    c.self.invariant acks c.discard.ensures.same c.discard.ensures.after c.end_wait.ensures.same
    (ack-ends v h c.end_wait.new.copies c.args.ticket c.in_ok-block.block copy c.self.invariant acks c.end_wait.ensures.after))
