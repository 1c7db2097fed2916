-- The shares of a bank's clients, as a call takes them that serves all clients (this project's own).
use Rattle.std.specs.Prelude.{◌≡◌, ℕ, zero, suc, ◌<◌, ◌==◌, ◌||◌, not, Bool, false, List, [], ◌∷◌, length, slice_index_or}
use Rattle.tl_bank_spec.specs.Cases.{bad_share, other_share}
use Rattle.tl_bank_spec.specs.Refusal.{Case}
use Rattle.tl_bank_spec.specs.Share.{ShareView}
use Rattle.tl_bank_spec.specs.Tables.{copies_at}
use Rattle.tl_bank_spec.specs.View.{View}
use Rattle.tl_bank_spec.specs.declared.refusal.Refusal.TheVariants.{OutOfRange, WrongBank}

-- the share of a client in a bank, with the number of its copies there
abbrev pub share_of : View → ℕ → ShareView
share_of v client = record { client = client; bank = v.number; count = copies_at v client }

-- The shares of a bank's clients: one for each, in their order, with the number of its copies.
pub record AreShares (v : View) (shares : List ShareView) : Type 0 where
  pub as_many : length shares ≡ v.geometry.clients
  pub each : (client : ℕ) (d : ShareView) → client < v.geometry.clients → slice_index_or shares client d ≡ share_of v client

-- whether one of the first n places fails a test
abbrev pub any_below : (ℕ → Bool) → ℕ → Bool
any_below test zero = false
any_below test (suc n) = any_below test n || test n

-- the share in a client's place
abbrev pub share_in : View → List ShareView → ℕ → ShareView
share_in v shares client = slice_index_or shares client (share_of v client)

-- the share in a client's place is another client's, or counts otherwise than the client's copies in this bank
abbrev pub is_bad : View → List ShareView → ℕ → Bool
is_bad v shares client = bad_share v client (share_in v shares client)

-- the share in a client's place is of another bank
abbrev pub is_other : View → List ShareView → ℕ → Bool
is_other v shares client = other_share v (share_in v shares client)

-- the cases in which the clients' shares are refused, in the order in which they are tested
abbrev pub shares_cases : View → List ShareView → List Case
shares_cases v shares =
    (not (length shares == v.geometry.clients) || any_below (is_bad v shares) v.geometry.clients, OutOfRange)
    ∷ (any_below (is_other v shares) v.geometry.clients, WrongBank) ∷ []
