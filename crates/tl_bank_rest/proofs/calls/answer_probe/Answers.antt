use Rattle.std.proofs.Common.{◌≡◌, None, sym, subst}
use Rattle.tl_bank_spec.specs.Calls.{answer_probe_cases}
use Rattle.tl_bank_spec.specs.Refusal.{first_of}
use Rattle.tl_bank_spec.specs.Share.{ShareView}
use Rattle.tl_bank_rest.proofs.Received.{shares-set}
use Rattle.tl_bank_rest.proofs.Sharing.{probe-client, place-own, place-there}
use Rattle.tl_bank_rest.specs.Shares.{share_of}
use Rattle.tl_bank_rest.proofs.calls.answer_probe.Goals as goal

pub bounds-shares-place : goal.bounds-shares-place
bounds-shares-place c =
    place-there c.args.bank.now c.args.shares.now c.args.ticket.client c.number-place.result c.requires.shares
    (probe-client c.args.bank.now c.args.ticket (share_of c.args.bank.now c.args.ticket.client) c.requires.taken) c.number-place.ensures

pub answer_probe_with-requires-clause-taken : goal.answer_probe_with-requires-clause-taken
answer_probe_with-requires-clause-taken c =
    subst (λ (s : ShareView). first_of (answer_probe_cases c.args.bank.now c.args.ticket s) ≡ None)
    (sym (place-own c.args.bank.now c.args.shares.now c.args.ticket.client c.number-place.result c.index-shares-place.result c.requires.shares
    (probe-client c.args.bank.now c.args.ticket (share_of c.args.bank.now c.args.ticket.client) c.requires.taken) c.number-place.ensures))
    c.requires.taken

pub answer_probe_with-requires-clause-own : goal.answer_probe_with-requires-clause-own
answer_probe_with-requires-clause-own c =
    place-own c.args.bank.now c.args.shares.now c.args.ticket.client c.number-place.result c.index-shares-place.result c.requires.shares
    (probe-client c.args.bank.now c.args.ticket (share_of c.args.bank.now c.args.ticket.client) c.requires.taken) c.number-place.ensures

pub returns-clause-shares : goal.returns-clause-shares
returns-clause-shares c =
    shares-set c.args.bank.now c.answer_probe_with.new.bank c.args.shares.now c.args.ticket.client c.number-place.result c.answer_probe_with.new.share
    c.answer_probe_with.ensures.size
    (probe-client c.args.bank.now c.args.ticket (share_of c.args.bank.now c.args.ticket.client) c.requires.taken) c.number-place.ensures
    c.answer_probe_with.ensures.share c.answer_probe_with.ensures.others c.requires.shares
