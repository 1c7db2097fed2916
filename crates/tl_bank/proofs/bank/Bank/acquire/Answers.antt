use Rattle.std.proofs.Common.{rules, ◌≡◌, ◌<◌, ◌^◌, ◌-◌, ◌∙◌, None, length, refl, sym, subst}
use Rattle.tl_types.specs.declared.channel.Channel.TheVariants.{A}
use Rattle.tl_bank_spec.specs.Calls.{acquire_cases}
use Rattle.tl_bank_spec.specs.Refusal.{first_of}
use Rattle.tl_bank_spec.specs.View.{View, client_at}
use Rattle.tl_bank_spec.proofs.Logged.{extends-appends}
use Rattle.tl_bank_spec.proofs.Sent.{sends-acquire, sends-as}
use Rattle.tl_bank.specs.Shown.{shown, layers}
use Rattle.tl_bank_laws.proofs.Allowed.{acquire-allowed, all-false}
use Rattle.tl_bank_laws.proofs.SendProbe.{channel-room}
use Rattle.tl_bank_laws.proofs.Acquires.{acquire-keeps, acquire-room, acquire-waits}
use Rattle.tl_bank.proofs.bank.Bank.acquire.Goals as goal

pub send-ticket-requires : goal.send-ticket-requires
send-ticket-requires c =
    let v : View = shown c.self.inside in
    let h = layers c.self.inside in
    let permitted : first_of (acquire_cases v c.args.client c.args.block c.args.grow) ≡ None =
    subst (λ (w : View). first_of (acquire_cases w c.args.client c.args.block c.args.grow) ≡ None)
    (sym (c.self.view_is ∙ c.make_room.ensures.same)) c.in_ok-check_acquire.ensures.permitted in
    let few = all-false (acquire_cases v c.args.client c.args.block c.args.grow) permitted in
    channel-room v h c.args.client A c.self.invariant
    (acquire-allowed v c.args.client c.args.block c.args.grow permitted).client few.1.1.1.1.1.0
    (subst (λ (w : View). length w.log < 2 ^ 64 - 1) (sym c.self.view_is) c.make_room.ensures.small)

pub wait_for-requires-clause-client : goal.wait_for-requires-clause-client
wait_for-requires-clause-client c =
    let v : View = shown c.self.inside in
    let h = layers c.self.inside in
    let permitted : first_of (acquire_cases v c.args.client c.args.block c.args.grow) ≡ None =
    subst (λ (w : View). first_of (acquire_cases w c.args.client c.args.block c.args.grow) ≡ None)
    (sym (c.self.view_is ∙ c.make_room.ensures.same)) c.in_ok-check_acquire.ensures.permitted in
    (acquire-room v h c.args.client c.args.block c.args.grow c.self.invariant permitted).client

pub wait_for-requires-clause-block : goal.wait_for-requires-clause-block
wait_for-requires-clause-block c =
    let v : View = shown c.self.inside in
    let h = layers c.self.inside in
    let permitted : first_of (acquire_cases v c.args.client c.args.block c.args.grow) ≡ None =
    subst (λ (w : View). first_of (acquire_cases w c.args.client c.args.block c.args.grow) ≡ None)
    (sym (c.self.view_is ∙ c.make_room.ensures.same)) c.in_ok-check_acquire.ensures.permitted in
    (acquire-room v h c.args.client c.args.block c.args.grow c.self.invariant permitted).inside

pub wait_for-requires-clause-room : goal.wait_for-requires-clause-room
wait_for-requires-clause-room c = λ none.
    let v : View = shown c.self.inside in
    let h = layers c.self.inside in
    let permitted : first_of (acquire_cases v c.args.client c.args.block c.args.grow) ≡ None =
    subst (λ (w : View). first_of (acquire_cases w c.args.client c.args.block c.args.grow) ≡ None)
    (sym (c.self.view_is ∙ c.make_room.ensures.same)) c.in_ok-check_acquire.ensures.permitted in
    (acquire-room v h c.args.client c.args.block c.args.grow c.self.invariant permitted).room refl none

pub invariant_of-self : goal.invariant_of-self
invariant_of-self c =
    let v : View = shown c.self.inside in
    let h = layers c.self.inside in
    let permitted : first_of (acquire_cases v c.args.client c.args.block c.args.grow) ≡ None =
    subst (λ (w : View). first_of (acquire_cases w c.args.client c.args.block c.args.grow) ≡ None)
    (sym (c.self.view_is ∙ c.make_room.ensures.same)) c.in_ok-check_acquire.ensures.permitted in
    rw (c.append.ensures.events, c.append.ensures.forgotten)
    (acquire-keeps v h c.args.client c.args.block c.args.grow (client_at v c.args.client c.args.block).held
    c.append.new.self.room c.send-ticket.new.links c.wait_for.new.self c.self.invariant
    (record { allowed = permitted; copy_is = refl }) c.send-ticket.ensures.same c.send-ticket.ensures.after c.wait_for.ensures.same
    (acquire-waits v h c.wait_for.new.self c.args.client c.args.block c.args.grow c.self.invariant permitted c.wait_for.ensures.after))

pub returns-clause-appends : goal.returns-clause-appends
returns-clause-appends c = search rules

pub returns-clause-ticket : goal.returns-clause-ticket
returns-clause-ticket c = search rules

pub returns-clause-sends : goal.returns-clause-sends
returns-clause-sends c =
    sends-as _ _ _ _ _ (returns-clause-ticket c)
    (sends-acquire _ _ _ _ _ (extends-appends _ _ _ (returns-clause-appends c)) (invariant_of-self c).lawful.run)
