-- The headline: what holds of a bank whenever its lock is free (this project's own).
use Rattle.std.specs.Prelude.{ℕ}
use Rattle.tl_protocol.specs.Coherent.{LoadsLast}
use Rattle.tl_protocol.specs.Kept.{IsKeptAt, IsNewestAt}
use Rattle.tl_protocol.specs.Runs.{IsRun}
use Rattle.tl_bank_spec.specs.View.{View, end_at, shape_of}

-- What happened is a run from reset to what the bank holds, and what it holds is coherent.
pub record IsCoherent (v : View) : Type 0 where
  -- the log is a run of the protocol, one permitted step after another, over the memory's image
  pub run : IsRun (shape_of v.geometry) v.image v.log
  -- at most one client may write a block, and then no other may read it; every copy stands in the directory and at home
  pub kept : (block : ℕ) → IsKeptAt (end_at v block)
  -- every readable copy is a whole block, and has the bytes last stored
  pub newest : (block : ℕ) → IsNewestAt (shape_of v.geometry) v.image v.log block (end_at v block)
  -- every load got the bytes last stored before it
  pub loads : LoadsLast v.image v.log
