use Rattle.std.proofs.Common.{rules, ◌<◌, ◌^◌, ◌-◌, ◌∙◌, length, sym, subst, ap}
use Rattle.tl_bank_spec.specs.Share.{ShareView, recount, recounted}
use Rattle.tl_bank_spec.specs.View.{View, perm_at}
use Rattle.tl_bank_spec.proofs.Counted.{others-keep}
use Rattle.tl_bank_spec.proofs.Logged.{extends-appends}
use Rattle.tl_bank_spec.proofs.Sent.{sends-grant-ack, sends-as}
use Rattle.tl_bank_laws.proofs.Grants.{grant-count, grant-enough, grant-head, grant-keeps, grant-later, grant-named, grant-place, grant-room, takes-with-room}
use Rattle.tl_bank.proofs.bank.Bank.take_grant.Goals as goal

pub discard-requires : goal.discard-requires
discard-requires c =
    let found = c.in_ok-found.ensures in
    let takes = takes-with-room _ c.args.self.now c.args.ticket c.args.share.now c.make_room.new.self.room _ _ _
    (c.self.view_is ∙ c.make_room.ensures.same) found.permitted found.finds in
    grant-head _ _ _ _ c.self.invariant takes.allowed

pub send-sent-requires : goal.send-sent-requires
send-sent-requires c =
    let found = c.in_ok-found.ensures in
    let takes = takes-with-room _ c.args.self.now c.args.ticket c.args.share.now c.make_room.new.self.room _ _ _
    (c.self.view_is ∙ c.make_room.ensures.same) found.permitted found.finds in
    let small = subst (λ (w : View). length w.log < 2 ^ 64 - 1) (sym c.self.view_is) c.make_room.ensures.small in
    grant-room _ _ _ _ _ c.self.invariant takes.allowed small c.discard.ensures.same c.discard.ensures.after

pub put-requires : goal.put-requires
put-requires c =
    let found = c.in_ok-found.ensures in
    let takes = takes-with-room _ c.args.self.now c.args.ticket c.args.share.now c.make_room.new.self.room _ _ _
    (c.self.view_is ∙ c.make_room.ensures.same) found.permitted found.finds in
    grant-place _ _ _ _ _ _ _ c.self.invariant takes

pub recount-requires-clause-counted : goal.recount-requires-clause-counted
recount-requires-clause-counted c =
    let found = c.in_ok-found.ensures in
    let takes = takes-with-room _ c.args.self.now c.args.ticket c.args.share.now c.make_room.new.self.room _ _ _
    (c.self.view_is ∙ c.make_room.ensures.same) found.permitted found.finds in
    (grant-enough _ _ _ _ _ _ _ c.self.invariant takes).0

pub recount-requires-clause-few : goal.recount-requires-clause-few
recount-requires-clause-few c =
    let found = c.in_ok-found.ensures in
    let takes = takes-with-room _ c.args.self.now c.args.ticket c.args.share.now c.make_room.new.self.room _ _ _
    (c.self.view_is ∙ c.make_room.ensures.same) found.permitted found.finds in
    (grant-enough _ _ _ _ _ _ _ c.self.invariant takes).1

pub invariant_of-self : goal.invariant_of-self
invariant_of-self c =
    let found = c.in_ok-found.ensures in
    let takes = takes-with-room _ c.args.self.now c.args.ticket c.args.share.now c.make_room.new.self.room _ _ _
    (c.self.view_is ∙ c.make_room.ensures.same) found.permitted found.finds in
    rw (c.append.ensures.events, c.append.ensures.forgotten)
    (grant-keeps _ _ _ _ _ _ _ c.append.new.self.room _ _ _ c.self.invariant takes c.discard.ensures.same c.discard.ensures.after
    c.send-sent.ensures.same c.send-sent.ensures.after c.put.ensures.same c.put.ensures.after)

pub returns-clause-share : goal.returns-clause-share
returns-clause-share c =
    let found = c.in_ok-found.ensures in
    let takes = takes-with-room _ c.args.self.now c.args.ticket c.args.share.now c.make_room.new.self.room _ _ _
    (c.self.view_is ∙ c.make_room.ensures.same) found.permitted found.finds in
    rw (c.append.ensures.events, ← grant-named found.finds)
    (c.recount.ensures
    ∙ ap (λ p. recounted p c.perm-later.result c.args.share.now) found.finds.before_is
    ∙ ap (λ p. recounted (perm_at c.args.self.now c.args.ticket.client c.in_ok-found.found.block) p c.args.share.now)
    (c.perm-later.ensures ∙ grant-later _ _ _ _ _ _ _ c.append.new.self.room c.self.invariant takes))

pub returns-clause-counted : goal.returns-clause-counted
returns-clause-counted c =
    let found = c.in_ok-found.ensures in
    let takes = takes-with-room _ c.args.self.now c.args.ticket c.args.share.now c.make_room.new.self.room _ _ _
    (c.self.view_is ∙ c.make_room.ensures.same) found.permitted found.finds in
    rw c.append.ensures.events
    (ap (λ (s : ShareView). s.count) c.recount.ensures
    ∙ ap (λ p. recount c.in_ok-found.found.before p c.args.share.now.count) c.perm-later.ensures
    ∙ grant-count _ _ _ _ _ _ _ c.append.new.self.room c.self.invariant takes)

pub returns-clause-appends : goal.returns-clause-appends
returns-clause-appends c =
    let block = grant-named c.in_ok-found.ensures.finds in
    search rules

pub returns-clause-others : goal.returns-clause-others
returns-clause-others c x other = others-keep _ _ _ x (extends-appends _ _ _ (returns-clause-appends c)) other

pub returns-clause-ticket : goal.returns-clause-ticket
returns-clause-ticket c = search rules

pub returns-clause-sends : goal.returns-clause-sends
returns-clause-sends c =
    sends-as _ _ _ _ _ (returns-clause-ticket c)
    (sends-grant-ack _ _ _ _ (extends-appends _ _ _ (returns-clause-appends c)) (invariant_of-self c).lawful.run)
