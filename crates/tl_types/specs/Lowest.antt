-- The lowest number that passes a test: of clients, that is who is probed next; of ways, which is taken next (this project's own).
use Rattle.std.specs.Prelude.{ℕ, zero, suc, Bool, true, false, Option, Some, None}

-- the number that was found, else n where it passes
abbrev pub or_this : Option ℕ → Bool → ℕ → Option ℕ
or_this (Some x) passes n = Some x
or_this None true n = Some n
or_this None false n = None

-- the lowest number below n that passes a test
abbrev pub lowest : (ℕ → Bool) → ℕ → Option ℕ
lowest test zero = None
lowest test (suc n) = or_this (lowest test n) (test n) n
