use Rattle.std.proofs.Common.{◌≡◌, ◌+◌, Vec, Global, sym, vec_len, arith}
use Rattle.std.proofs.lemmas.List.Elements.{All-head, All-tail, All-same, All-push}
use Rattle.tl_client_mail.specs.declared.sending.Sending.{Sending}
use Rattle.tl_runner_threads.proofs.deal.one_of_each.Goals as goal

pub loop-ways-preserved : goal.loop-ways-preserved
loop-ways-preserved c =
    let P = λ (ways : Vec Sending Global). vec_len ways ≡ c.args.left in
    let Q = λ (ways : Vec Sending Global). vec_len ways + 1 ≡ c.args.left in
    let all = All-same P _ _ (sym c.in-Some.ensures.steps.0) c.loop-ways.invariant.0 in
    let one = All-head P _ _ all in (
      All-tail P _ _ all,
      All-same Q _ _ c.in_ok-push-2.ensures.items (All-push Q _ _ c.loop-ways.invariant.1 (omega (arith, c.remove.ensures.len, one))),
    )
