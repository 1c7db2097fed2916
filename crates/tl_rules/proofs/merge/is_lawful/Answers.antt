use Rattle.std.proofs.Common.{refl, sym, ap, arith}
use Rattle.std.proofs.lemmas.Bool.{false≢true}
use Rattle.std.proofs.lemmas.List.{drop_all}
use Rattle.tl_rules.specs.Certified.{accesses_of}
use Rattle.tl_rules.proofs.Rising.{made_more, refuted, not_past, all_rise}
use Rattle.tl_rules.proofs.merge.is_lawful.Goals as goal

pub returns-then-index-ge-CLIENTS : goal.returns-then-index-ge-CLIENTS
returns-then-index-ge-CLIENTS c =
    let step = made_more c.args.log.now c.loop-event.event-index c.event-item.result c.in-Some.access.now (omega arith) c.event-item.is (sym c.in-Some.ensures) in
    (λ f. absurd (false≢true f), λ all. absurd (refuted _ _ _ _ _ c.loop-event.invariant step (λ ok. omega (arith, ok.0)) all))

pub returns-then-access-stamp : goal.returns-then-access-stamp
returns-then-access-stamp c =
    let step = made_more c.args.log.now c.loop-event.event-index c.event-item.result c.in-Some.access.now (omega arith) c.event-item.is (sym c.in-Some.ensures) in (
      λ f. absurd (false≢true f),
      λ all. absurd (refuted _ _ _ _ _ c.loop-event.invariant step (λ ok. not_past _ _ _ c.in-Some-last.is c.if-access-stamp.true ok.1) all),
    )

pub returns : goal.returns
returns c =
    (λ _. all_rise _ _ _ c.loop-event.invariant (ap accesses_of (drop_all c.loop-event.event-index c.args.log.now c.loop-event-test.false)), λ _. refl)
