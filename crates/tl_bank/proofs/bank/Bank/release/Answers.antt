use Rattle.std.proofs.Common.{rules, ◌≡◌, ◌<◌, ◌^◌, ◌-◌, ◌∙◌, None, length, sym, subst, ap}
use Rattle.tl_map.specs.Limits.{IsLawful}
use Rattle.tl_types.specs.declared.channel.Channel.TheVariants.{C}
use Rattle.tl_protocol.specs.Protocol.{is_none}
use Rattle.tl_bank_spec.specs.Calls.{release_cases}
use Rattle.tl_bank_spec.specs.Refusal.{first_of}
use Rattle.tl_bank_spec.specs.Share.{ShareView, recount, recounted}
use Rattle.tl_bank_spec.specs.View.{View, perm_at}
use Rattle.tl_bank_spec.proofs.Counted.{others-keep}
use Rattle.tl_bank_spec.proofs.Logged.{extends-appends}
use Rattle.tl_bank_spec.proofs.Sent.{sends-release, sends-as}
use Rattle.tl_bank.specs.Shown.{shown, layers}
use Rattle.tl_bank_laws.proofs.Allowed.{all-false, release-allowed}
use Rattle.tl_bank_laws.proofs.SendProbe.{channel-room}
use Rattle.tl_bank_laws.proofs.Releases.{GivesUp, release-keeps, release-count, release-counted, release-later, release-place}
use Rattle.tl_bank.proofs.bank.Bank.release.Goals as goal

pub send-ticket-requires : goal.send-ticket-requires
send-ticket-requires c =
    let v : View = shown c.self.inside in
    let permitted : first_of (release_cases v c.args.client c.args.block c.args.prune c.args.share.now) ≡ None =
    subst (λ (w : View). first_of (release_cases w c.args.client c.args.block c.args.prune c.args.share.now) ≡ None)
    (sym (c.self.view_is ∙ c.make_room.ensures.same)) c.in_ok-found.ensures.permitted in
    let few = all-false (release_cases v c.args.client c.args.block c.args.prune c.args.share.now) permitted in
    channel-room v (layers c.self.inside) c.args.client C c.self.invariant
    (release-allowed v c.args.client c.args.block c.args.prune c.args.share.now permitted).client few.1.1.1.1.0
    (subst (λ (w : View). length w.log < 2 ^ 64 - 1) (sym c.self.view_is) c.make_room.ensures.small)

pub put-requires : goal.put-requires
put-requires c =
    let v : View = shown c.self.inside in
    let permitted : first_of (release_cases v c.args.client c.args.block c.args.prune c.args.share.now) ≡ None =
    subst (λ (w : View). first_of (release_cases w c.args.client c.args.block c.args.prune c.args.share.now) ≡ None)
    (sym (c.self.view_is ∙ c.make_room.ensures.same)) c.in_ok-found.ensures.permitted in
    release-place v (layers c.self.inside) c.args.client c.args.block c.args.prune c.args.share.now c.in_ok-found.found.copy
    c.self.invariant permitted

pub recount-requires-clause-counted : goal.recount-requires-clause-counted
recount-requires-clause-counted c = λ some.
    let lawful : IsLawful c.args.self.now.geometry =
    subst (λ (w : View). IsLawful w.geometry) (c.self.view_is ∙ c.make_room.ensures.same) c.self.invariant.geometry in
    let before : c.in_ok-found.found.before ≡ perm_at c.args.self.now c.args.client c.args.block =
    c.in_ok-found.ensures.before in
    (release-counted c.args.self.now c.args.client c.args.block c.args.prune c.args.share.now lawful
    (c.in_ok-found.ensures.permitted)).0 (sym (ap is_none before) ∙ some)

pub recount-requires-clause-few : goal.recount-requires-clause-few
recount-requires-clause-few c =
    let lawful : IsLawful c.args.self.now.geometry =
    subst (λ (w : View). IsLawful w.geometry) (c.self.view_is ∙ c.make_room.ensures.same) c.self.invariant.geometry in
    (release-counted c.args.self.now c.args.client c.args.block c.args.prune c.args.share.now lawful
    (c.in_ok-found.ensures.permitted)).1

pub invariant_of-self : goal.invariant_of-self
invariant_of-self c =
    let v : View = shown c.self.inside in
    let Shows : View → Type 0 =
    λ w. GivesUp w c.args.client c.args.block c.args.prune c.args.share.now c.in_ok-found.found.copy c.in_ok-found.found.given in
    let gives : Shows v =
    subst Shows (sym (c.self.view_is ∙ c.make_room.ensures.same))
    (record {
      allowed = c.in_ok-found.ensures.permitted;
      copy_is = c.in_ok-found.ensures.copy;
      given_is = c.in_ok-found.ensures.given;
    }) in
    rw (c.append.ensures.events, c.append.ensures.forgotten)
    (release-keeps v (layers c.self.inside) c.args.client c.args.block c.args.prune c.args.share.now c.in_ok-found.found.copy
    c.in_ok-found.found.given c.append.new.self.room c.send-ticket.new.links c.put.new.copies c.self.invariant gives
    c.send-ticket.ensures.same c.send-ticket.ensures.after c.put.ensures.same c.put.ensures.after)

pub returns-clause-share : goal.returns-clause-share
returns-clause-share c =
    let v : View = shown c.self.inside in
    let Shows : View → Type 0 =
    λ w. GivesUp w c.args.client c.args.block c.args.prune c.args.share.now c.in_ok-found.found.copy c.in_ok-found.found.given in
    let gives : Shows v =
    subst Shows (sym (c.self.view_is ∙ c.make_room.ensures.same))
    (record {
      allowed = c.in_ok-found.ensures.permitted;
      copy_is = c.in_ok-found.ensures.copy;
      given_is = c.in_ok-found.ensures.given;
    }) in
    let before : c.in_ok-found.found.before ≡ perm_at c.args.self.now c.args.client c.args.block =
    c.in_ok-found.ensures.before in
    rw c.append.ensures.events
    (c.recount.ensures
    ∙ ap (λ p. recounted p c.perm-later.result c.args.share.now) before
    ∙ ap (λ p. recounted (perm_at c.args.self.now c.args.client c.args.block) p c.args.share.now)
    (c.perm-later.ensures
    ∙ release-later v c.args.client c.args.block c.args.prune c.args.share.now c.in_ok-found.found.copy c.in_ok-found.found.given
    c.append.new.self.room gives))

pub returns-clause-counted : goal.returns-clause-counted
returns-clause-counted c =
    let v : View = shown c.self.inside in
    let Shows : View → Type 0 =
    λ w. GivesUp w c.args.client c.args.block c.args.prune c.args.share.now c.in_ok-found.found.copy c.in_ok-found.found.given in
    let gives : Shows v =
    subst Shows (sym (c.self.view_is ∙ c.make_room.ensures.same))
    (record {
      allowed = c.in_ok-found.ensures.permitted;
      copy_is = c.in_ok-found.ensures.copy;
      given_is = c.in_ok-found.ensures.given;
    }) in
    let Before : View → Type 0 = λ w. c.in_ok-found.found.before ≡ perm_at w c.args.client c.args.block in
    let before : Before v =
    subst Before (sym (c.self.view_is ∙ c.make_room.ensures.same)) (c.in_ok-found.ensures.before) in
    rw c.append.ensures.events
    (ap (λ (s : ShareView). s.count) c.recount.ensures
    ∙ ap (λ p. recount c.in_ok-found.found.before p c.args.share.now.count) c.perm-later.ensures
    ∙ release-count v c.args.client c.args.block c.args.prune c.args.share.now c.in_ok-found.found.copy c.in_ok-found.found.given
    c.append.new.self.room c.in_ok-found.found.before gives before)

pub returns-clause-appends : goal.returns-clause-appends
returns-clause-appends c = search rules

pub returns-clause-others : goal.returns-clause-others
returns-clause-others c x other = others-keep _ _ _ x (extends-appends _ _ _ (returns-clause-appends c)) other

pub returns-clause-ticket : goal.returns-clause-ticket
returns-clause-ticket c = search rules

pub returns-clause-sends : goal.returns-clause-sends
returns-clause-sends c =
    sends-as _ _ _ _ _ (returns-clause-ticket c)
    (sends-release _ _ _ _ _ (extends-appends _ _ _ (returns-clause-appends c)) (invariant_of-self c).lawful.run)
