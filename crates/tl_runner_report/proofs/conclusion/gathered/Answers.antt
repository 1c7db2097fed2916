use Rattle.std.proofs.Common.{◌≡◌, ℕ, slice_get, Some, Vec, List, [], ◌∷◌, ◌++◌, map, take, refl, sym, ap, ◌∙◌, subst, arith}
use Rattle.std.specs.declared.alloc.Global.{Global}
use Rattle.std.proofs.lemmas.Bool.{false≢true}
use Rattle.std.proofs.lemmas.Option.{slice_get_within}
use Rattle.tl_protocol.specs.Ledger.{has_copy}
use Rattle.tl_bank_spec.specs.Share.{ShareView}
use Rattle.tl_bank_spec.specs.View.{View}
use Rattle.tl_bank_spec.specs.Views.{pairs_at}
use Rattle.tl_tickets.specs.Shares.{AreShares}
use Rattle.tl_tickets.proofs.Sums.{one_more}
use Rattle.tl_runner_report.proofs.Reported.{read_at}
use Rattle.tl_runner_report.proofs.Zipped.{zip_from, zip_long, zip_at, slice_at, taken_more, taken_same}
use Rattle.tl_runner_report.proofs.conclusion.gathered.Goals as goal
use Rattle.tl_runner_report.proofs.conclusion.gathered.Goals.{then-place-lt-BANKS, else-place-lt-BANKS}

abbrev Given : View → Vec ShareView Global → Type 0
Given v list = AreShares v list.items

pub returns-then-banks-shares-clause-some : goal.returns-then-banks-shares-clause-some
returns-then-banks-shares-clause-some c = (
  λ f. absurd (false≢true f),
  λ all. absurd (c.if-banks-shares.true (zip_long Given c.args.banks.now c.args.shares.now all)),
)

pub returns-in_default-clause-some : goal.returns-in_default-clause-some
returns-in_default-clause-some c =
    let i = c.loop-place.place in
    let long = c.if-banks-shares.false in
    let lt = c.loop-place-test.true in
    let bank = slice_at c.args.banks.now i c.index-banks-place.result (omega (arith, lt)) c.index-banks-place.is in
    let list = slice_at c.args.shares.now i c.index-shares-place.result (omega (arith, lt, long)) c.index-shares-place.is in (
      λ f. absurd (false≢true f),
      λ all. c.in_default.ensures.exact.1
          (subst (λ (hs : List ShareView). AreShares c.index-banks-place.result hs) (sym c.as_slice.ensures.value)
          (zip_at Given c.args.banks.now c.args.shares.now i c.index-banks-place.result c.index-shares-place.result all bank list)),
    )

pub loop-place-preserved : goal.loop-place-preserved
loop-place-preserved c =
    let i = c.loop-place.place in
    let lt = c.loop-place-test.true in
    let own = c.in-Ok.ensures.exact.0 refl in (
      one_more
          (λ (k : ℕ). (v : View) (list : Vec ShareView Global) → slice_get c.args.banks.now k ≡ Some v → slice_get c.args.shares.now k ≡ Some list → AreShares v list.items)
          i c.loop-place.invariant.0
          (λ v list bank shares.
          subst (λ (u : View). AreShares u list.items) (read_at c.args.banks.now i c.index-banks-place.result v c.index-banks-place.is bank)
          (subst (λ (hs : List ShareView). AreShares c.index-banks-place.result hs)
          (c.as_slice.ensures.value ∙ ap (λ (l : Vec ShareView Global). l.items) (read_at c.args.shares.now i c.index-shares-place.result list c.index-shares-place.is shares))
          own)),
      elim c.if-place-lt-BANKS.branch [
        | then-place-lt-BANKS w ↦
            ap (λ h. h.items) w.held-is
            ∙ (w.push.ensures.items
            ∙ (ap (λ (xs : List ℕ). xs ++ c.in-Ok.sum ∷ []) c.loop-place.invariant.1
            ∙ (ap (λ (n : ℕ). map (pairs_at has_copy) (take i (take 8 c.args.banks.now)) ++ n ∷ []) c.in-Ok.ensures.held
            ∙ sym (taken_more (pairs_at has_copy) 8 c.args.banks.now i c.index-banks-place.result w.if-place-lt-BANKS.true (omega (arith, lt)) c.index-banks-place.is))))
        | else-place-lt-BANKS w ↦
            ap (λ h. h.items) w.held-is ∙ (c.loop-place.invariant.1 ∙ taken_same (pairs_at has_copy) 8 c.args.banks.now i (omega (arith, w.if-place-lt-BANKS.false)))
      ],
    )

pub returns-clause-some : goal.returns-clause-some
returns-clause-some c = (
  λ _. zip_from Given c.args.banks.now c.args.shares.now (c.if-banks-shares.false)
      (λ i v list bank shares.
      c.loop-place.invariant.0 i (let lt = slice_get_within c.args.banks.now i v bank in let past = c.loop-place-test.false in omega (arith, lt, past)) v list bank shares),
  λ _. refl,
)
