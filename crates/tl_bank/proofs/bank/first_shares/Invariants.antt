use Rattle.std.proofs.Common.{◌≡◌}
use Rattle.arrayvec.specs.ArrayVec.{array_vec_len}
use Rattle.tl_bank_spec.specs.Share.{first_shares}
use Rattle.tl_bank.proofs.bank.first_shares.Given as goal

abbrev pub invariant-loop-client : goal.invariant-loop-client
invariant-loop-client l = (l.shares.items ≡ first_shares l.bank l.client) × (array_vec_len l.shares ≡ l.client)
