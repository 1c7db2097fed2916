-- What a share says: how many copies a client has in a bank (this project's own).
use Rattle.std.specs.Prelude.{ℕ, zero, suc, ◌+◌, ◌-◌, List, [], ◌∷◌, ◌++◌, if◌then◌else◌}
use Rattle.tl_types.specs.declared.permission.Perm.{Perm}
use Rattle.tl_protocol.specs.Protocol.{is_none}

-- a share: a client, a bank, and how many copies the client has in it
pub record ShareView : Type 0 where
  pub client : ℕ
  pub bank : ℕ
  pub count : ℕ

-- the shares of the first n clients in a bank where nobody has a copy
abbrev pub first_shares : ℕ → ℕ → List ShareView
first_shares bank zero = []
first_shares bank (suc n) = first_shares bank n ++ record { client = n; bank = bank; count = 0 } ∷ []

-- the count after one copy went from a permission to another: one more where it was None, one less where it falls to None
abbrev pub recount : Perm → Perm → ℕ → ℕ
recount before later count =
    if is_none before then (if is_none later then count else count + 1)
    else (if is_none later then count - 1 else count)

-- the share after that
abbrev pub recounted : Perm → Perm → ShareView → ShareView
recounted before later share = record share { count = recount before later share.count }
