-- The states that a page shows, told as changes (this project's own).
use Rattle.std.specs.Prelude.{◌≡◌, ℕ, suc, List, [], ◌∷◌, ◌++◌, map, slice_set, string_bytes, vec_items}
use Rattle.tl_map.specs.Numbers.{Numbers}
use Rattle.tl_script_words.specs.declared.step.Step.{Step}
use Rattle.tl_text.specs.declared.answer.Answer.{Answer}
use Rattle.tl_trace.specs.NetworkState.{NetworkState, IsReset}
use Rattle.tl_trace.specs.NetworkSteps.{IsNetworkStep}
use Rattle.tlchart_page.specs.Parts.{state_shown}
use Rattle.tlchart_page.specs.declared.film.Change.{Change}
use Rattle.tlchart_page.specs.declared.film.Frame.{Frame}
use Rattle.tlchart_page.specs.declared.film.Film.{Film}
use Rattle.tlchart_page.specs.declared.parts.Cell.{Cell}

-- a state with the changes of a step: each puts its text in its place
abbrev pub changed : List (List ℕ) → List Change → List (List ℕ)
changed state [] = state
changed state (c ∷ rest) = changed (slice_set state c.place (string_bytes c.text)) rest

-- A step's frame: its answer, and the changes that make of the state that was shown before it the one that is shown after it.
pub record IsFrame (cells : List Cell) (index : ℕ) (step : Step) (old new : NetworkState) (state : List (List ℕ)) (frame : Frame) : Type 0 where
  pub answers : IsNetworkStep index step old new frame.answer
  pub changes : changed (state_shown old cells) frame.changes.items ≡ state_shown new cells
  pub shown : state ≡ state_shown new cells

-- a film has one more frame at its end
pub record IsLonger (old : Film) (frame : Frame) (new : Film) : Type 0 where
  pub start : new.start ≡ old.start
  pub answers : new.answers.items ≡ old.answers.items ++ frame.answer ∷ []
  pub changes : map vec_items new.changes.items ≡ map vec_items old.changes.items ++ frame.changes.items ∷ []

-- From a state of all banks on, each step gives its answer, and its changes make of the state that was shown before the step the one
-- that the banks' views show after it.
abbrev pub AreFrames : List Cell → ℕ → List Step → NetworkState → List Answer → List (List Change) → NetworkState → Type 0
AreFrames cells index [] old [] [] new = new ≡ old
AreFrames cells index (step ∷ steps) old (answer ∷ answers) (changes ∷ rest) new =
    (next : NetworkState)
    × IsNetworkStep index step old next answer
    × (changed (state_shown old cells) changes ≡ state_shown next cells)
    × AreFrames cells (suc index) steps next answers rest new
AreFrames cells index steps old answers changes new = ⊥

-- A film of some steps over banks of a geometry and an image: it begins with what the banks show at reset, and has a frame for each
-- step. So the state that is shown after a step, which is the first with all changes up to it, is the banks' at that step.
pub record IsFilm (g : Numbers) (image : List ℕ) (steps : List Step) (cells : List Cell) (film : Film) : Type 0 where
  pub first : NetworkState
  pub last : NetworkState
  pub reset : IsReset g image first
  pub start : map string_bytes film.start.items ≡ state_shown first cells
  pub frames : AreFrames cells 0 steps first film.answers.items (map vec_items film.changes.items) last
