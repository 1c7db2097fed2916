use Rattle.std.proofs.Common.{◌≡◌, None, sym, ◌∙◌, subst}
use Rattle.tl_bank_home.specs.Homes.{way_in}
use Rattle.tl_types.specs.declared.channel.Channel.TheVariants.{E}
use Rattle.tl_bank_spec.specs.Cases.{block_named}
use Rattle.tl_bank_spec.specs.HomeCalls.{take_grant_ack_cases}
use Rattle.tl_bank_spec.specs.Refusal.{first_of}
use Rattle.tl_bank_spec.specs.View.{View}
use Rattle.tl_bank_spec.specs.Own.{ways_below}
use Rattle.tl_bank.specs.Shown.{shown, layers}
use Rattle.tl_bank_laws.proofs.GrantAcks.{grant_ack-keeps}
use Rattle.tl_bank_laws.proofs.Slots.{below-at}
use Rattle.tl_bank.proofs.bank.Bank.take_grant_ack.Goals as goal

pub invariant_of-self : goal.invariant_of-self
invariant_of-self c =
    let v : View = shown c.self.inside in
    let none : first_of (take_grant_ack_cases v c.args.ticket) ≡ None =
    subst (λ (w : View). first_of (take_grant_ack_cases w c.args.ticket) ≡ None) (sym (c.self.view_is ∙ c.make_room.ensures.same))
    (c.in_ok-block.ensures.permitted) in
    let block_is : c.in_ok-block.block ≡ block_named v c.args.ticket E =
    subst (λ (w : View). c.in_ok-block.block ≡ block_named w c.args.ticket E) (sym (c.self.view_is ∙ c.make_room.ensures.same))
    c.in_ok-block.ensures.block in
    rw (c.append.ensures.events, c.append.ensures.forgotten, c.close.ensures)
    (grant_ack-keeps v (layers c.self.inside) c.args.ticket c.in_ok-block.block c.discard.new.links c.append.new.self.room
    (ways_below (way_in c.self.inside.home) v.geometry.memory_blocks) c.self.invariant none block_is
    c.discard.ensures.same c.discard.ensures.after
    (λ b l. below-at (way_in c.self.inside.home) v.geometry.memory_blocks b l))
