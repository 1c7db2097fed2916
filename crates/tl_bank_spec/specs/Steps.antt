-- What a call leaves: one event more, or fewer that code can read (this project's own).
use Rattle.std.specs.Prelude.{◌≡◌, ◌+◌, ◌^◌, ◌≤◌, [], ◌∷◌, ◌++◌, length, nat_lt, if◌then◌else◌}
use Rattle.tl_protocol.specs.declared.event.Event.{Event}
use Rattle.tl_bank_spec.specs.View.{View}

-- A bank made as before, with one event more in its log.
pub record Extends (old new : View) (event : Event) : Type 0 where
  pub geometry : new.geometry ≡ old.geometry
  pub number : new.number ≡ old.number
  pub image : new.image ≡ old.image
  pub log : new.log ≡ old.log ++ event ∷ []

-- One event at the log's end, and at most one from the room; nothing else changed.
pub record Appends (old new : View) (event : Event) : Type 0 where
  pub is : new ≡ record old { log = old.log ++ event ∷ []; room = new.room }
  pub room : old.room ≤ new.room + 1

-- All events so far are forgotten, and what they took is room for more; nothing else changed. From 2 ^ 63 events on none are.
pub record Forgets (old new : View) : Type 0 where
  pub is : new ≡ record old { forgotten = new.forgotten; room = new.room }
  pub forgotten : new.forgotten ≡ (if nat_lt (length old.log) (2 ^ 63) then length old.log else old.forgotten)
  pub room : new.room + old.forgotten ≡ old.room + new.forgotten
