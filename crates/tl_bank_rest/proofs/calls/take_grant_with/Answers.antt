use Rattle.std.proofs.Common.{refl, sym, ◌∙◌, ap}
use Rattle.std.proofs.lemmas.Result.{err_from_is_err_and}
use Rattle.tl_bank_spec.specs.Share.{ShareView}
use Rattle.tl_bank_spec.specs.View.{View}
use Rattle.tl_bank_rest.proofs.Resting.{appends-serves, only-memory, serves-receives}
use Rattle.tl_bank_rest.proofs.Sharing.{other-share, own-share}
use Rattle.tl_bank_rest.specs.Shares.{share_of}
use Rattle.tl_bank_rest.proofs.calls.take_grant_with.Goals as goal

pub returns-in_err-take_grant-clause-refused : goal.returns-in_err-take_grant-clause-refused
returns-in_err-take_grant-clause-refused c =
    let p = err_from_is_err_and c.from_residual.result c.from_residual.ensures.1 in
    rw (p.1, p.2) (only-memory _ _ _ c.requires.taken c.in_err-take_grant.ensures.refused)

pub returns-in_err-take_grant-clause-size : goal.returns-in_err-take_grant-clause-size
returns-in_err-take_grant-clause-size c = ap (λ (v : View). v.geometry) c.in_err-take_grant.ensures.unchanged

pub returns-in_err-take_grant-clause-share : goal.returns-in_err-take_grant-clause-share
returns-in_err-take_grant-clause-share c =
    c.in_err-take_grant.ensures.share_unchanged
    ∙ (c.requires.own ∙ ap (λ (v : View). share_of v c.args.ticket.client) (sym c.in_err-take_grant.ensures.unchanged))

pub returns-in_err-take_grant-clause-others : goal.returns-in_err-take_grant-clause-others
returns-in_err-take_grant-clause-others c = λ x apart. ap (λ (v : View). share_of v x) c.in_err-take_grant.ensures.unchanged

pub returns-clause-receives : goal.returns-clause-receives
returns-clause-receives c =
    serves-receives _ _ _ _ _ (appends-serves _ _ _ c.in_ok-take_grant.ensures.appends) c.log-log.ensures.run refl

pub returns-clause-size : goal.returns-clause-size
returns-clause-size c = ap (λ (v : View). v.geometry) c.in_ok-take_grant.ensures.appends.is

pub returns-clause-share : goal.returns-clause-share
returns-clause-share c =
    own-share _ _ _ c.args.ticket.client c.args.share.now _ c.in_ok-take_grant.ensures.appends c.requires.own
    (ap (λ (s : ShareView). s.client) c.in_ok-take_grant.ensures.share) (ap (λ (s : ShareView). s.bank) c.in_ok-take_grant.ensures.share)
    c.in_ok-take_grant.ensures.counted

pub returns-clause-others : goal.returns-clause-others
returns-clause-others c = λ x apart.
    other-share _ _ _ x c.in_ok-take_grant.ensures.appends (c.in_ok-take_grant.ensures.others x apart)
