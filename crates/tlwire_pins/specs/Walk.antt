-- A walk along the lines of a record, at a client's pins (this project's own).
use Rattle.std.specs.Prelude.{◌≡◌, ◌==◌, ℕ, Bool, true, false, List, [], ◌∷◌, ◌++◌, take, Option, Some, None, slice_get}
use Rattle.tl_protocol.specs.declared.shape.Shape.{Shape}
use Rattle.tl_protocol.specs.Runs.{at_reset}
use Rattle.tl_protocol.specs.declared.event.Event.{Event}
use Rattle.tl_rules.specs.PlainState.{PlainState}
use Rattle.tlwire_search.specs.Led.{LeadsTo}
use Rattle.tlwire_search.specs.Where.{block_of}
use Rattle.tlwire_search.specs.declared.seen.Seen.{Seen}
use Rattle.tlwire_pins.specs.Pins.{is_own, lines_from, own}
use Rattle.tlwire_pins.specs.View.{BreaksLine, MayLine, MayBeSeen, after_seen, before_line, fresh, led_by}
use Rattle.tlwire_pins.specs.declared.pass.Wrong.{Wrong}
use Rattle.tlwire_pins.specs.declared.view.Tap.{Tap}
use Rattle.tlwire_pins.specs.declared.view.View.{View}
use Rattle.tlwire_pins.specs.declared.views.Broken.{Broken}

-- each of these lines may be seen of a client, one after another
abbrev pub AllMay : Tap → Shape → View → List Seen → Type 0
AllMay tap shape v [] = Unit {0}
AllMay tap shape v (x ∷ rest) = MayBeSeen tap shape v x × AllMay tap shape (after_seen tap shape v x) rest

-- The line at a place of a record is one of a block at the client's pins; there the client holds and waits for what the block's lines
-- before it lead to, with what nobody saw of it, and this is what the line breaks.
pub record IsWrong (tap : Tap) (shape : Shape) (c : ℕ) (seen : List Seen) (w : Wrong) : Type 0 where
  pub line : Seen
  pub there : slice_get seen w.place ≡ Some line
  pub own_line : is_own shape c w.block line ≡ true
  pub led : w.view ≡ before_line tap (led_by tap shape fresh (own shape c w.block (take w.place seen))) line
  pub breaks : BreaksLine shape w.view line w.breach
  pub client : w.client ≡ c

-- ## One line. No public clause cites these.

-- it is this block
abbrev pub is_at : Option ℕ → ℕ → Bool
is_at None b = false
is_at (Some block) b = block == b

-- a line that is of a block is seen next, or one that is not leaves it as it is
abbrev pub StepsAt : Tap → Shape → Seen → Bool → View → View → Type 0
StepsAt tap shape x true v w = MayBeSeen tap shape v x × (w ≡ after_seen tap shape v x)
StepsAt tap shape x false v w = w ≡ v

-- one line more leads from what a client holds of each block to what it holds of each
abbrev pub Steps : Tap → Shape → ℕ → Seen → (ℕ → View) → (ℕ → View) → Type 0
Steps tap shape c x old new = (block : ℕ) → StepsAt tap shape x (is_own shape c block x) (old block) (new block)

-- a line of a block at the client's pins may not be seen next, and this is what it breaks
pub record BreaksNext (tap : Tap) (shape : Shape) (c : ℕ) (x : Seen) (old : ℕ → View) (b : Broken) : Type 0 where
  pub own_line : is_own shape c b.block x ≡ true
  pub held : b.view ≡ before_line tap (old b.block) x
  pub breaks : BreaksLine shape b.view x b.breach
  pub may_not : ¬ MayLine shape b.view x

-- ## What is seen of a run at the pins. No public clause cites these.

-- it is of a block
abbrev pub is_in : Shape → ℕ → Seen → Bool
is_in shape block x = block_of shape.block_bytes x == block

-- some lines are the beginning of others
abbrev pub IsBeginning : List Seen → List Seen → Type 0
IsBeginning some all = (more : List Seen) × (all ≡ some ++ more)

-- the events so far are a run that leads to this map, and these lines are what is seen of them
pub record IsReplayed (shape : Shape) (image : List ℕ) (run : List Event) (plain : PlainState) (lines : List Seen) : Type 0 where
  pub leads : LeadsTo shape image run plain
  pub seen : lines ≡ lines_from shape (at_reset shape image) run
