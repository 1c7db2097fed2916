-- What home records of a block that it holds: its tag, whether home's copy is dirty, and a permission for each client
-- (TileLink 1.8, section 9; how it is kept is this project's own).
use Rattle.std.specs.Prelude.{◌≡◌, ℕ, ◌^◌, ◌<◌, ◌≤◌, ◌==◌, Bool, false, Option, None, Some, IfSome, if◌then◌else◌}
use Rattle.std.specs.Int.{bit_at}
use Rattle.tl_types.specs.declared.permission.Perm.{Perm}
use Rattle.tl_types.specs.declared.permission.Perm.TheVariants.{None as NoAccess, Branch, Tip}
use Rattle.tl_types.specs.declared.limits.TheConstants.{CLIENTS}

-- an entry of the directory: `owner` has Tip, and client c has Branch where bit c of `branches` is set
pub record Entry : Type 0 where
  pub tag : ℕ
  pub dirty : Bool
  pub owner : Option ℕ
  pub branches : ℕ

-- the owner is this client
abbrev pub is_owner : Option ℕ → ℕ → Bool
is_owner None client = false
is_owner (Some owner) client = owner == client

-- the permission of one who is the owner or not, and whose bit is set or not
abbrev pub perm_by : Bool → ℕ → Perm
perm_by owns bit = if owns then Tip else if bit == 1 then Branch else NoAccess

-- the permission that home records for a client
unfoldable pub entry_perm : Entry → ℕ → Perm
entry_perm entry client = perm_by (is_owner entry.owner client) (bit_at entry.branches client)

-- an owner is alone, and only the clients below 16 have a permission
pub record IsEntry (entry : Entry) : Type 0 where
  pub alone : IfSome entry.owner (λ owner. entry.branches ≡ 0)
  pub owner : IfSome entry.owner (λ owner. owner < CLIENTS)
  pub branches : entry.branches < 2 ^ CLIENTS

-- only the clients below n are recorded: the owner is one of them, and no bit at or past n is set
pub record IsOfClients (n : ℕ) (entry : Entry) : Type 0 where
  pub owner : IfSome entry.owner (λ owner. owner < n)
  pub bits : (client : ℕ) → n ≤ client → bit_at entry.branches client ≡ 0
