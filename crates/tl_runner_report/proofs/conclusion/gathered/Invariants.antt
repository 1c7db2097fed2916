use Rattle.std.proofs.Common.{◌≡◌, ℕ, ◌<◌, slice_get, map, take, Some, Vec}
use Rattle.std.specs.declared.alloc.Global.{Global}
use Rattle.tl_protocol.specs.Ledger.{has_copy}
use Rattle.tl_bank_spec.specs.Share.{ShareView}
use Rattle.tl_bank_spec.specs.View.{View}
use Rattle.tl_bank_spec.specs.Views.{pairs_at}
use Rattle.tl_tickets.specs.Shares.{AreShares}
use Rattle.tl_runner_report.proofs.conclusion.gathered.Given as goal

abbrev pub invariant-loop-place : goal.invariant-loop-place
invariant-loop-place l =
    ((i : ℕ) → i < l.place → (v : View) (list : Vec ShareView Global) → slice_get l.banks i ≡ Some v → slice_get l.shares i ≡ Some list
    → AreShares v list.items)
    × (l.held.items ≡ map (pairs_at has_copy) (take l.place (take 8 l.banks)))
