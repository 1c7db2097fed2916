use Rattle.std.proofs.Common.{◌≡◌, ◌+◌, Vec, Global, vec_len, arith, rules}
use Rattle.std.specs.Vec.Iter.{into_iter_len}
use Rattle.std.proofs.lemmas.List.Elements.{All-weaker}
use Rattle.tl_client_mail.specs.declared.sending.Sending.{Sending}
use Rattle.tl_runner_threads.proofs.deal.posts.Goals as goal

pub loop-own-preserved : goal.loop-own-preserved
loop-own-preserved c =
    let left = c.len-in-loop-own.result in
    let one : left ≡ into_iter_len c.next.new.self + 1 = search rules in (
      All-weaker (λ (ways : Vec Sending Global). vec_len ways + 1 ≡ left) (λ (ways : Vec Sending Global). vec_len ways ≡ into_iter_len c.next.new.self)
          (λ ways is. omega (arith, is, one)) _ c.in_ok-ways.ensures.rest,
      search rules,
      search rules,
      search rules,
    )
