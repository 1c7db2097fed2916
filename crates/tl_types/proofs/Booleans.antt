-- Tests that pass or fail.
use Rattle.std.proofs.Common.{◌≡◌, ◌||◌, Bool, true, false}

-- where one of two tests passes and the first fails, the second passes
pub or-else : (a b : Bool) → (a || b) ≡ true → a ≡ false → b ≡ true
or-else true b h e = cc
or-else false b h e = h
