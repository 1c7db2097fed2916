use Rattle.std.proofs.Common.{◌≡◌, [], ◌++◌, List, ◌∙◌, ap, subst}
use Rattle.std.specs.List.{filter}
use Rattle.tl_types.specs.Channel.{channel_index}
use Rattle.tl_types.specs.declared.channel.Channel.TheVariants.{A, C, E}
use Rattle.tl_types.specs.declared.ticket.Ticket.{Ticket}
use Rattle.tl_client_mail.specs.Inbox.{Took}
use Rattle.tl_client.specs.Homes.{Waits, in_order}
use Rattle.tl_client_mail.specs.Rounds.{Round, all_of, is_on}
use Rattle.tl_client.specs.declared.home.Home.TheInside.{Inside}
use Rattle.tl_client_mail.specs.declared.links.Links.TheVariants.{OfBank}
use Rattle.tl_client.proofs.ServeLaws.{laid}
use Rattle.tl_client.proofs.home.Home.take_mail.Goals.{then-take_tickets, else-take_tickets}
use Rattle.tl_client.proofs.home.Home.take_mail.Goals as goal

pub returns-clause-takes : goal.returns-clause-takes
returns-clause-takes g c =
    let inside : Inside = c.if-take_tickets.self-inside in
    let taken : List Ticket = c.take_tickets.new.taken.items in
    let old : Round = c.self.inside.waiting in
    let bank : inside.bank ≡ c.self.inside.bank = elim c.if-take_tickets.branch [
      | then-take_tickets w ↦ ap (λ (i : Inside). i.bank) w.self-inside-is
      | else-take_tickets w ↦ ap (λ (i : Inside). i.bank) w.self-inside-is
    ] in
    let waits : inside.waiting ≡ c.make_room.new.self = elim c.if-take_tickets.branch [
      | then-take_tickets w ↦ ap (λ (i : Inside). i.waiting) w.self-inside-is
      | else-take_tickets w ↦ ap (λ (i : Inside). i.waiting) w.self-inside-is
    ] in
    let items : inside.taken.items ≡ taken = elim c.if-take_tickets.branch [
      | then-take_tickets w ↦ ap (λ (i : Inside). i.taken.items) w.self-inside-is
      | else-take_tickets w ↦ ap (λ (i : Inside). i.taken.items) w.self-inside-is
    ] in
    let kept : inside.waiting.kept ≡ old.kept = ap (λ (w : Round). w.kept) (waits ∙ c.make_room.ensures.same) in
    let rest : inside.waiting.rest ≡ old.rest = ap (λ (w : Round). w.rest) (waits ∙ c.make_room.ensures.same) in
    let one : c.deref.result.now ≡ taken = c.deref.ensures.value ∙ items in
    let two : c.deref-2.result.now ≡ taken = c.deref-2.ensures.value ∙ items in
    let three : c.deref-3.result.now ≡ taken = c.deref-3.ensures.value ∙ items in (
      bank ∙ ap (λ (v : Waits). v.bank) c.self.view_is,
      (
        taken,
        subst (λ (v : Waits). Took (OfBank v.bank c.args.clients) c.args.mail.now.inbox [] c.take_tickets.new.self.inbox taken) c.self.view_is
            (subst (λ (b : List Ticket). Took (OfBank c.self.inside.bank c.args.clients) c.args.mail.now.inbox b c.take_tickets.new.self.inbox taken)
            (c.reserve.ensures.items ∙ c.clear.ensures.items) c.take_tickets.ensures.taken),
        laid old c.push_all.new.self c.push_all-2.new.self c.push_all-3.new.self
            (filter (λ (t : Ticket). is_on (channel_index E) t) taken) (filter (λ (t : Ticket). is_on (channel_index C) t) taken)
            (filter (λ (t : Ticket). is_on (channel_index A) t) taken)
            (c.push_all.ensures.kept ∙ kept)
            (c.push_all.ensures.rest ∙ ap (λ (r : List Ticket). r ++ filter (λ (t : Ticket). is_on (channel_index E) t) c.deref.result.now) rest
            ∙ ap (λ (ts : List Ticket). old.rest ++ filter (λ (t : Ticket). is_on (channel_index E) t) ts) one)
            c.push_all-2.ensures.kept
            (c.push_all-2.ensures.rest ∙ ap (λ (ts : List Ticket). c.push_all.new.self.rest ++ filter (λ (t : Ticket). is_on (channel_index C) t) ts) two)
            c.push_all-3.ensures.kept
            (c.push_all-3.ensures.rest ∙ ap (λ (ts : List Ticket). c.push_all-2.new.self.rest ++ filter (λ (t : Ticket). is_on (channel_index A) t) ts) three)
            ∙ ap (λ (v : Waits). all_of v.waiting ++ in_order taken) c.self.view_is,
      ),
    )
