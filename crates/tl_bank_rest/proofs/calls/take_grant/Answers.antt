use Rattle.std.proofs.Common.{◌≡◌, None, sym, subst}
use Rattle.tl_bank_spec.specs.Calls.{take_grant_cases}
use Rattle.tl_bank_spec.specs.Refusal.{first_of}
use Rattle.tl_bank_spec.specs.Share.{ShareView}
use Rattle.tl_bank_rest.proofs.Received.{shares-set}
use Rattle.tl_bank_rest.proofs.Sharing.{grant-client, place-own, place-there}
use Rattle.tl_bank_rest.specs.Shares.{share_of}
use Rattle.tl_bank_rest.proofs.calls.take_grant.Goals as goal

pub bounds-shares-place : goal.bounds-shares-place
bounds-shares-place c =
    place-there c.args.bank.now c.args.shares.now c.args.ticket.client c.number-place.result c.requires.shares
    (grant-client c.args.bank.now c.args.ticket (share_of c.args.bank.now c.args.ticket.client) c.requires.taken) c.number-place.ensures

pub take_grant_with-requires-clause-taken : goal.take_grant_with-requires-clause-taken
take_grant_with-requires-clause-taken c =
    subst (λ (s : ShareView). first_of (take_grant_cases c.args.bank.now c.args.ticket s) ≡ None)
    (sym (place-own c.args.bank.now c.args.shares.now c.args.ticket.client c.number-place.result c.index-shares-place.result c.requires.shares
    (grant-client c.args.bank.now c.args.ticket (share_of c.args.bank.now c.args.ticket.client) c.requires.taken) c.number-place.ensures))
    c.requires.taken

pub take_grant_with-requires-clause-own : goal.take_grant_with-requires-clause-own
take_grant_with-requires-clause-own c =
    place-own c.args.bank.now c.args.shares.now c.args.ticket.client c.number-place.result c.index-shares-place.result c.requires.shares
    (grant-client c.args.bank.now c.args.ticket (share_of c.args.bank.now c.args.ticket.client) c.requires.taken) c.number-place.ensures

pub returns-clause-shares : goal.returns-clause-shares
returns-clause-shares c =
    shares-set c.args.bank.now c.take_grant_with.new.bank c.args.shares.now c.args.ticket.client c.number-place.result c.take_grant_with.new.share
    c.take_grant_with.ensures.size
    (grant-client c.args.bank.now c.args.ticket (share_of c.args.bank.now c.args.ticket.client) c.requires.taken) c.number-place.ensures
    c.take_grant_with.ensures.share c.take_grant_with.ensures.others c.requires.shares
