use Rattle.std.proofs.Common.{arith, ◌≡◌, ◌++◌, ◌∷◌, [], ◌∙◌, ap, subst, true, take, List, append_assoc}
use Rattle.std.proofs.lemmas.Grind.{common_steps}
use Rattle.tl_types.specs.declared.ticket.Ticket.{Ticket}
use Rattle.tl_client_mail.specs.Rounds.{is_barred}
use Rattle.tl_client_mail.proofs.RoundLaws.{barred-push}
use Rattle.tl_client_mail.proofs.waiting.Waiting.next.Goals as goal

pub loop-ticket-preserved : goal.loop-ticket-preserved
loop-ticket-preserved c =
    let passed : List Ticket = c.loop-ticket.invariant.barred.0 in
    let was : c.loop-ticket.self.kept ≡ c.args.self.now.kept ++ passed = c.loop-ticket.invariant.barred.1 in
    let one : take 1 c.loop-ticket.self.rest ≡ c.in-Some.ticket ∷ [] = grind (arith, common_steps) in
    let kept : c.refused.new.self.kept ≡ c.loop-ticket.self.kept ++ c.in-Some.ticket ∷ [] = grind (arith, common_steps, one) in
    let is : is_barred c.loop-ticket.self.kept c.in-Some.ticket ≡ true = grind (arith, common_steps) in
    record {
      order = grind (arith, common_steps);
      room = grind (arith, common_steps);
      barred = (
        passed ++ c.in-Some.ticket ∷ [],
        kept ∙ ap (λ (k : List Ticket). k ++ c.in-Some.ticket ∷ []) was ∙ append_assoc c.args.self.now.kept passed (c.in-Some.ticket ∷ []),
        barred-push c.args.self.now.kept passed c.in-Some.ticket c.loop-ticket.invariant.barred.2
            (subst (λ (k : List Ticket). is_barred k c.in-Some.ticket ≡ true) was is),
      );
    }
