use Rattle.std.proofs.Common.{refl, sym, ◌∙◌, ap}
use Rattle.std.proofs.lemmas.Result.{err_from_is_err_and}
use Rattle.tl_bank_spec.specs.Share.{ShareView}
use Rattle.tl_bank_spec.specs.View.{View}
use Rattle.tl_bank_rest.proofs.Resting.{appends-serves, only-memory, serves-receives}
use Rattle.tl_bank_rest.proofs.Sharing.{other-share, own-share}
use Rattle.tl_bank_rest.specs.Shares.{share_of}
use Rattle.tl_bank_rest.proofs.calls.answer_probe_with.Goals as goal

pub returns-in_err-answer_probe-clause-refused : goal.returns-in_err-answer_probe-clause-refused
returns-in_err-answer_probe-clause-refused c =
    let p = err_from_is_err_and c.from_residual.result c.from_residual.ensures.1 in
    rw (p.1, p.2) (only-memory _ _ _ c.requires.taken c.in_err-answer_probe.ensures.refused)

pub returns-in_err-answer_probe-clause-size : goal.returns-in_err-answer_probe-clause-size
returns-in_err-answer_probe-clause-size c = ap (λ (v : View). v.geometry) c.in_err-answer_probe.ensures.unchanged

pub returns-in_err-answer_probe-clause-share : goal.returns-in_err-answer_probe-clause-share
returns-in_err-answer_probe-clause-share c =
    c.in_err-answer_probe.ensures.share_unchanged
    ∙ (c.requires.own ∙ ap (λ (v : View). share_of v c.args.ticket.client) (sym c.in_err-answer_probe.ensures.unchanged))

pub returns-in_err-answer_probe-clause-others : goal.returns-in_err-answer_probe-clause-others
returns-in_err-answer_probe-clause-others c = λ x apart. ap (λ (v : View). share_of v x) c.in_err-answer_probe.ensures.unchanged

pub returns-clause-receives : goal.returns-clause-receives
returns-clause-receives c =
    serves-receives _ _ _ _ _ (appends-serves _ _ _ c.in_ok-answer_probe.ensures.appends) c.log-log.ensures.run refl

pub returns-clause-size : goal.returns-clause-size
returns-clause-size c = ap (λ (v : View). v.geometry) c.in_ok-answer_probe.ensures.appends.is

pub returns-clause-share : goal.returns-clause-share
returns-clause-share c =
    own-share _ _ _ c.args.ticket.client c.args.share.now _ c.in_ok-answer_probe.ensures.appends c.requires.own
    (ap (λ (s : ShareView). s.client) c.in_ok-answer_probe.ensures.share) (ap (λ (s : ShareView). s.bank) c.in_ok-answer_probe.ensures.share)
    c.in_ok-answer_probe.ensures.counted

pub returns-clause-others : goal.returns-clause-others
returns-clause-others c = λ x apart.
    other-share _ _ _ x c.in_ok-answer_probe.ensures.appends (c.in_ok-answer_probe.ensures.others x apart)
