use Rattle.std.proofs.Common.{◌≡◌, ◌∙◌, ap}
use Rattle.tl_trace.specs.NetworkState.{SharedBankState}
use Rattle.tl_trace.proofs.Foreseen.{answer-foreseen, answer-refused, share-found}
use Rattle.tl_trace.proofs.shared_bank.SharedBank.would_answer.Goals as goal

-- what the bank foresees of its share
pub returns-in-Ok : goal.returns-in-Ok
returns-in-Ok c =
    answer-foreseen c.args.self.now c.self.inside.bank c.index-deref-share_place.result c.args.ticket c.in-Ok.found.0 c.in-Ok.found.1 c.on_c.result
    (ap (λ (s : SharedBankState). s.bank) c.self.view_is)
    (share-found c.args.self.now c.args.ticket.client c.share_place.result c.deref.result.now c.index-deref-share_place.result c.share_place.ensures.is
    c.share_place.ensures.inside (c.deref.ensures.0 ∙ ap (λ (s : SharedBankState). s.shares) c.self.view_is) c.index-deref-share_place.is)
    c.in-Ok.ensures.permitted c.in-Ok.ensures.block c.in-Ok.ensures.sends c.on_c.ensures

-- a refusal that it foresees
pub returns-in-Err : goal.returns-in-Err
returns-in-Err c =
    answer-refused c.args.self.now c.self.inside.bank c.index-deref-share_place.result c.args.ticket c.in-Err.refusal
    (ap (λ (s : SharedBankState). s.bank) c.self.view_is)
    (share-found c.args.self.now c.args.ticket.client c.share_place.result c.deref.result.now c.index-deref-share_place.result c.share_place.ensures.is
    c.share_place.ensures.inside (c.deref.ensures.0 ∙ ap (λ (s : SharedBankState). s.shares) c.self.view_is) c.index-deref-share_place.is)
    c.in-Err.ensures.refused
