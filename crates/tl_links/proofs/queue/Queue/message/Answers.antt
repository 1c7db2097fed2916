use Rattle.std.proofs.Common.{◌≡◌, ◌≤◌, ◌∙◌, Some, length, slice_get, option_copied, ap, refl, sym, arith}
use Rattle.std.proofs.lemmas.Option.{slice_get_read}
use Rattle.tl_links.proofs.KeyLaws.{message-key, message-past}
use Rattle.tl_links.proofs.queue.Queue.message.Goals as goal

pub returns-in_err-key : goal.returns-in_err-key
returns-in_err-key c =
    let past : length c.self.inside.order.items ≤ c.in_ok-place.place = omega (arith, c.in_err-key.ensures.item) in
    ap option_copied c.from_residual-in_err-key.ensures ∙
    message-past c.self.invariant c.self.view_is c.args.serial c.in_ok-place.place c.in_ok-place.ensures.0
    (sym c.in_ok-place.ensures.1) past

pub returns : goal.returns
returns c =
    let found = c.in_ok-key.ensures.item in
    let at : slice_get c.self.inside.order.items c.in_ok-place.place ≡ Some c.in_ok-key.key.now =
    slice_get_read c.self.inside.order.items (length c.self.inside.order.items) c.in_ok-place.place c.in_ok-key.key.now refl found.3.0 found.1 in
    c.get-2.ensures ∙
    message-key c.self.invariant c.self.view_is c.args.serial c.in_ok-place.place c.in_ok-key.key.now c.in_ok-place.ensures.0
    (sym c.in_ok-place.ensures.1) at
