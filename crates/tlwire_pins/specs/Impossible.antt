-- When no lawful run is seen so at a client's pins (this project's own).
use Rattle.std.specs.Prelude.{◌≡◌, ◌==◌, ◌&&◌, ℕ, Bool, List, ◌∷◌, ◌++◌}
use Rattle.tl_protocol.specs.declared.event.Event.{Event}
use Rattle.tl_protocol.specs.declared.shape.Shape.{Shape}
use Rattle.tlwire_search.specs.declared.seen.Seen.{Seen}
use Rattle.tlwire_pins.specs.Drops.{IsInFull}
use Rattle.tlwire_pins.specs.Pins.{IsSeenAt, own}
use Rattle.tlwire_pins.specs.View.{MayBeSeen, fresh, led_by}
use Rattle.tlwire_pins.specs.declared.view.Tap.{Tap}

-- the clients that drop clean copies: this one, where the tap says so
abbrev pub dropper : Tap → ℕ → ℕ → Bool
dropper tap c x = (x == c) && tap.drops

-- No lawful run over any image is seen so at the pins of a client, whose core was watched or not, whatever clean copies it gave up
-- without a word, where it may.
abbrev pub IsImpossible : Tap → Shape → ℕ → List Seen → Type 0
IsImpossible tap shape c seen =
    (full : List Seen) → IsInFull (dropper tap c) seen full
    → (image : List ℕ) (run : List Event) → ¬ IsSeenAt tap.cores c shape image full run

-- Where a run is seen so, each line of a block may be seen of a client that holds and waits for what the block's lines
-- before it lead to, with the stores and the drops that nobody saw.
abbrev pub EveryLineMayBeSeen : Type 0
EveryLineMayBeSeen =
    (tap : Tap) (c : ℕ) (shape : Shape) (image : List ℕ) (seen full : List Seen) (run : List Event)
    → IsInFull (dropper tap c) seen full → IsSeenAt tap.cores c shape image full run
    → (block : ℕ) (before later : List Seen) (x : Seen) → own shape c block seen ≡ before ++ x ∷ later
    → MayBeSeen tap shape (led_by tap shape fresh before) x
