-- Where a reader of entries is (this project's own).
use Rattle.std.specs.Prelude.{ℕ, Option}
use Rattle.tlcheck_rules.specs.declared.entry.Entry.{Entry}

-- the line that was read last, and an entry on it that was not given out yet
pub record EntriesState : Type 0 where
  pub number : ℕ
  pub first : Option Entry
