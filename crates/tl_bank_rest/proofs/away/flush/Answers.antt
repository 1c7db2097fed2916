use Rattle.std.proofs.Common.{[], arith}
use Rattle.std.proofs.lemmas.Result.{err_from_is_err_and}
use Rattle.tl_bank_rest.proofs.Flushing.{quiet-flushed}
use Rattle.tl_bank_rest.proofs.Received.{first-refused, join-received, memory-refused, none-received, none-some, received-grows, some-none}
use Rattle.tl_bank_rest.proofs.Sharing.{are-shares}
use Rattle.tl_bank_rest.proofs.away.flush.Goals as goal

pub returns-in_err-check_shares-clause-refused : goal.returns-in_err-check_shares-clause-refused
returns-in_err-check_shares-clause-refused c =
    let p = err_from_is_err_and c.from_residual.result c.from_residual.ensures.1 in
    rw (p.1, p.2) (first-refused _ c.args.bank.now.room _ c.in_err-check_shares.ensures.refused)

pub returns-in_err-check_shares-clause-received : goal.returns-in_err-check_shares-clause-received
returns-in_err-check_shares-clause-received c = ([], none-received c.args.bank.now)

pub returns-in_err-check_shares-clause-shares : goal.returns-in_err-check_shares-clause-shares
returns-in_err-check_shares-clause-shares c = λ none. absurd (some-none _ _ c.in_err-check_shares.ensures.refused none)

pub receive_all-requires : goal.receive_all-requires
receive_all-requires c = are-shares c.args.bank.now c.args.shares.now c.in_ok-check_shares.ensures.permitted

pub returns-in_err-receive_all-clause-refused : goal.returns-in_err-receive_all-clause-refused
returns-in_err-receive_all-clause-refused c =
    let p = err_from_is_err_and c.from_residual-in_err-receive_all.result c.from_residual-in_err-receive_all.ensures.1 in
    rw (p.1, p.2) (memory-refused _ _ _ c.in_ok-check_shares.ensures.permitted c.in_err-receive_all.ensures.refused)

pub returns-in_err-receive_all-clause-unchanged : goal.returns-in_err-receive_all-clause-unchanged
returns-in_err-receive_all-clause-unchanged c = λ some. absurd (none-some _ c.in_ok-check_shares.ensures.permitted some)

pub returns-in_err-receive_all-clause-shares : goal.returns-in_err-receive_all-clause-shares
returns-in_err-receive_all-clause-shares c = λ none. c.in_err-receive_all.ensures.shares

pub returns-in_err-send_all_away-clause-refused : goal.returns-in_err-send_all_away-clause-refused
returns-in_err-send_all_away-clause-refused c =
    let p = err_from_is_err_and c.from_residual-in_err-send_all_away.result c.from_residual-in_err-send_all_away.ensures.1 in
    rw (p.1, p.2) (memory-refused _ _ _ c.in_ok-check_shares.ensures.permitted c.in_err-send_all_away.ensures.refused)

pub returns-in_err-send_all_away-clause-unchanged : goal.returns-in_err-send_all_away-clause-unchanged
returns-in_err-send_all_away-clause-unchanged c = λ some. absurd (none-some _ c.in_ok-check_shares.ensures.permitted some)

pub returns-in_err-send_all_away-clause-received : goal.returns-in_err-send_all_away-clause-received
returns-in_err-send_all_away-clause-received c =
    join-received _ _ _ c.in_ok-receive_all.ensures.received c.in_err-send_all_away.ensures.received

pub returns-in_err-send_all_away-clause-shares : goal.returns-in_err-send_all_away-clause-shares
returns-in_err-send_all_away-clause-shares c = λ none. c.in_err-send_all_away.ensures.shares

pub overflow_sub-came : goal.overflow_sub-came
overflow_sub-came c =
    omega (
      arith,
      c.events-before.ensures,
      c.events.ensures,
      received-grows _ _
          (join-received _ _ _ c.in_ok-receive_all.ensures.received c.in_ok-send_all_away.ensures.received),
    )

pub returns-clause-unchanged : goal.returns-clause-unchanged
returns-clause-unchanged c = λ some. absurd (none-some _ c.in_ok-check_shares.ensures.permitted some)

pub returns-clause-flushed : goal.returns-clause-flushed
returns-clause-flushed c = λ block own.
    quiet-flushed _ block c.log-log.ensures.lawful c.in_ok-send_all_away.ensures.quiet own (c.in_ok-send_all_away.ensures.none block own)

pub returns-clause-received : goal.returns-clause-received
returns-clause-received c = join-received _ _ _ c.in_ok-receive_all.ensures.received c.in_ok-send_all_away.ensures.received

pub returns-clause-count : goal.returns-clause-count
returns-clause-count c =
    omega (
      arith,
      c.events-before.ensures,
      c.events.ensures,
      received-grows _ _
          (join-received _ _ _ c.in_ok-receive_all.ensures.received c.in_ok-send_all_away.ensures.received),
    )

pub returns-clause-shares : goal.returns-clause-shares
returns-clause-shares c = λ none. c.in_ok-send_all_away.ensures.shares
