use Rattle.std.proofs.Common.{◌≡◌, ℕ, ◌<◌, get_or}
use Rattle.tl_bank_spec.specs.Share.{ShareView}
use Rattle.tl_tickets.proofs.shares.has_share.Given as goal

abbrev pub invariant-loop-share : goal.invariant-loop-share
invariant-loop-share l =
    let x : ShareView = record { client = l.client; bank = l.bank; count = l.count } in
    (k : ℕ) → k < l.share-index → get_or l.shares k x ≡ x → ⊥
