-- No open register waits for nothing (this project's own).
use Rattle.std.specs.Prelude.{◌≡◌, ◌≢◌, ℕ, Some, None}
use Rattle.tl_protocol.specs.declared.home.Outward.TheVariants.{Quiet}
use Rattle.tl_protocol.specs.declared.shape.Shape.{Shape}
use Rattle.tl_protocol.specs.Protocol.{Block, NoProbe, NoGrant}
use Rattle.tl_registers.specs.declared.register.Register.{Register}
use Rattle.tl_registers.specs.Fit.{Fits}
use Rattle.tl_registers.specs.NextAction.{next_due}
use Rattle.tl_registers.specs.Register.{victim_of}

-- Nothing of a block is under way that a register waits for: no Probe, no Grant, and nothing between home and the memory.
pub record NothingPasses (shape : Shape) (s : Block) : Type 0 where
  pub no_probe : NoProbe shape s
  pub no_grant : NoGrant shape s
  pub quiet : s.outward ≡ Quiet

-- A register acts where nothing of its own block and of its victim is under way.
abbrev pub EveryRegisterActs : Type 0
EveryRegisterActs =
    (shape : Shape) (states : ℕ → Block) (r : Register) → Fits shape states r → NothingPasses shape (states r.own)
    → ((victim : ℕ) → victim_of r ≡ Some victim → NothingPasses shape (states victim)) → next_due shape states r ≢ None
