use Rattle.std.proofs.Common.{◌∙◌, ap, arith, List, [], ◌∷◌, ◌++◌, slice_set, slice_index_or}
use Rattle.std.proofs.lemmas.Grind.{common_steps}
use Rattle.tl_types.specs.declared.ticket.Ticket.{Ticket}
use Rattle.tl_client_mail.specs.Ways.{sent_by}
use Rattle.tl_client_mail.proofs.WayLaws.{sent-more}
use Rattle.tl_client_mail.proofs.mail.Mail.send.Goals as goal

pub returns-then-not-has_none_back-clause-sent : goal.returns-then-not-has_none_back-clause-sent
returns-then-not-has_none_back-clause-sent g c =
    sent-more c.self.inside.sending.items c.args.to c.index_mut.result.now c.send.new.self _ c.args.ticket (grind (arith, common_steps)) c.send.ensures.sent c.index_mut.ensures.value
    ∙ ap (λ (s : List (List Ticket)). slice_set s c.args.to (slice_index_or s c.args.to [] ++ c.args.ticket ∷ [])) (ap sent_by c.self.view_is)

pub returns-else-not-has_none_back-clause-sent : goal.returns-else-not-has_none_back-clause-sent
returns-else-not-has_none_back-clause-sent g c =
    sent-more c.self.inside.sending.items c.args.to c.index_mut.result.now c.send.new.self _ c.args.ticket (grind (arith, common_steps)) c.send.ensures.sent c.index_mut.ensures.value
    ∙ ap (λ (s : List (List Ticket)). slice_set s c.args.to (slice_index_or s c.args.to [] ++ c.args.ticket ∷ [])) (ap sent_by c.self.view_is)
