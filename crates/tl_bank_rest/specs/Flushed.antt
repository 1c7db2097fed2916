-- A block that is in the memory alone (this project's own).
use Rattle.std.specs.Prelude.{◌≡◌, ℕ, ◌*◌, ◌<◌, None}
use Rattle.tl_types.specs.declared.permission.Perm.TheVariants.{None as p_None}
use Rattle.tl_protocol.specs.Coherent.{AreLast}
use Rattle.tl_bank_spec.specs.View.{View, client_at, end_at, perm_at}

-- Home has no copy of the block and records nobody, no client has one, and the memory has the bytes last stored.
pub record IsFlushed (v : View) (block : ℕ) : Type 0 where
  pub home : (end_at v block).home ≡ None
  pub nobody : (client : ℕ) → client < v.geometry.clients → (client_at v client block).recorded ≡ p_None
  pub no_copy : (client : ℕ) → client < v.geometry.clients → perm_at v client block ≡ p_None
  pub memory : AreLast v.image v.log (block * v.geometry.block_bytes) (end_at v block).memory
