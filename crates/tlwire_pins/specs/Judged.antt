-- What a judge at a client's pins knows of the lines that it saw, one after another (this project's own).
use Rattle.std.specs.Prelude.{◌≡◌, ℕ, true, List, ◌∷◌, ◌++◌, nat_eq, unwrap_or}
use Rattle.std.specs.HashMap.{HashMap, get}
use Rattle.std.specs.declared.hash.BuildHasherDefault.{BuildHasherDefault}
use Rattle.std.specs.declared.hash.FoldHasher.{FoldHasher}
use Rattle.tl_protocol.specs.declared.shape.Shape.{Shape}
use Rattle.tlwire_search.specs.declared.seen.Seen.{Seen}
use Rattle.tlwire_pins.specs.Impossible.{IsImpossible}
use Rattle.tlwire_pins.specs.Pins.{is_own, own}
use Rattle.tlwire_pins.specs.View.{BreaksLine, before_line, fresh, keeps, led_by}
use Rattle.tlwire_pins.specs.Walk.{AllMay}
use Rattle.tlwire_pins.specs.declared.judge.PinsJudge.{PinsJudge}
use Rattle.tlwire_pins.specs.declared.view.Cores.{Cores}
use Rattle.tlwire_pins.specs.declared.view.Tap.{Tap}
use Rattle.tlwire_pins.specs.declared.view.View.{View}
use Rattle.tlwire_pins.specs.declared.views.Broken.{Broken}

-- what a client holds of each block and waits for
abbrev pub Table : Type 0
Table = HashMap ℕ View (BuildHasherDefault FoldHasher)

-- and of one: at first nothing
abbrev pub held_in : Table → ℕ → View
held_in table block = unwrap_or (get nat_eq table block) fresh

-- what a judge's client holds of a block and waits for
abbrev pub holds : PinsJudge → ℕ → View
holds judge block = held_in judge.views block

-- each of these lines that is of a block at the client's pins may be seen there, after the block's lines before it
abbrev pub EachMay : Tap → Shape → ℕ → List Seen → Type 0
EachMay tap shape c lines = (block : ℕ) → AllMay tap shape fresh (own shape c block lines)

-- The judge is where these lines lead from reset: each may be seen, and of each block the client holds and waits for what they lead to.
pub record Follows (cores : Cores) (shape : Shape) (c : ℕ) (lines : List Seen) (judge : PinsJudge) : Type 0 where
  pub same_cores : judge.cores ≡ cores
  pub same_shape : judge.shape ≡ shape
  pub same_client : judge.client ≡ c
  pub may : EachMay (keeps cores) shape c lines
  pub led : (block : ℕ) → holds judge block ≡ led_by (keeps cores) shape fresh (own shape c block lines)

-- The line behind these is one of a block at the client's pins; there the client holds and waits for what the block's lines before it
-- lead to, with the stores that nobody saw, and this is what the line breaks. No lawful run is seen so, whatever follows.
pub record Breaks (cores : Cores) (shape : Shape) (c : ℕ) (lines : List Seen) (x : Seen) (b : Broken) : Type 0 where
  pub own_line : is_own shape c b.block x ≡ true
  pub led : b.view ≡ before_line (keeps cores) (led_by (keeps cores) shape fresh (own shape c b.block lines)) x
  pub breaks : BreaksLine shape b.view x b.breach
  pub impossible : (later : List Seen) → IsImpossible (keeps cores) shape c (lines ++ x ∷ later)
