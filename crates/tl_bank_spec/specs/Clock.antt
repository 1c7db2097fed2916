-- The stamps of a log, and the clock that they leave (this project's own).
use Rattle.std.specs.Prelude.{ℕ, ◌<◌, max, List, [], ◌∷◌}
use Rattle.tl_protocol.specs.declared.event.Event.{Event}
use Rattle.tl_protocol.specs.declared.event.Event.TheVariants.{Load, Store}
use Rattle.tl_bank_spec.specs.View.{View}

-- the clock after an event: the stamp of an access, else as before
abbrev pub stamped : ℕ → Event → ℕ
stamped clock (Load access) = access.stamp
stamped clock (Store access) = access.stamp
stamped clock event = clock

-- the stamp of the last access, and the clock given before the first
abbrev pub clock_from : ℕ → List Event → ℕ
clock_from clock [] = clock
clock_from clock (e ∷ es) = clock_from (stamped clock e) es

-- the clock that a log leaves: the stamp of its last access, 0 where there is none
abbrev pub clock_of : List Event → ℕ
clock_of log = clock_from 0 log

-- an access has a stamp past the clock
abbrev pub IsLater : ℕ → Event → Type 0
IsLater clock (Load access) = clock < access.stamp
IsLater clock (Store access) = clock < access.stamp
IsLater clock event = Unit {0}

-- each access has a stamp past the clock that the events before it leave, from a clock on
abbrev pub StampsRiseFrom : ℕ → List Event → Type 0
StampsRiseFrom clock [] = Unit {0}
StampsRiseFrom clock (e ∷ es) = IsLater clock e × StampsRiseFrom (stamped clock e) es

-- the stamps rise strictly along a log
abbrev pub StampsRise : List Event → Type 0
StampsRise log = StampsRiseFrom 0 log

-- the greater of the bank's clock and a client's
abbrev pub latest : View → ℕ → ℕ
latest v clock = max (clock_of v.log) clock
