-- Messages as arrows from the step that sent each to the step that took it (this project's own).
use Rattle.std.specs.Prelude.{ℕ, suc, Bool, false, List, [], ◌∷◌, Option, Some, None, if◌then◌else◌}
use Rattle.std.specs.List.{cons_option}
use Rattle.tlchart_model.specs.Lifeline.{same_place}
use Rattle.tlchart_model.specs.declared.arrow.Arrow.{Arrow}
use Rattle.tlchart_model.specs.declared.lifeline.Place.{Place}
use Rattle.tlchart_model.specs.declared.message.ShownMessage.{ShownMessage}
use Rattle.tlchart_model.specs.declared.turn.Turn.{Turn}

-- a step took the message at a place
abbrev pub takes_at : Place → Option Place → Bool
takes_at place None = false
takes_at place (Some taken) = same_place place taken

-- the row of the first of some steps, the first of them in a row, that took the message at a place
abbrev pub taker : Place → ℕ → List Turn → Option ℕ
taker place row [] = None
taker place row (turn ∷ later) = if takes_at place turn.takes then Some row else taker place (suc row) later

-- the arrow of the message that the step in a row sent, with the row of the step after it that took the message
abbrev pub arrow_by : ℕ → List Turn → Option ShownMessage → Option Arrow
arrow_by row later None = None
arrow_by row later (Some message) = Some (record { message = message; sent = row; taken = taker message.place (suc row) later })

-- an arrow for each message that a step sent, from a row on, in the order of the steps
abbrev pub arrows_from : ℕ → List Turn → List Arrow
arrows_from row [] = []
arrows_from row (turn ∷ later) = cons_option (arrow_by row later turn.sends) (arrows_from (suc row) later)

-- the arrows of all steps
abbrev pub arrows_of : List Turn → List Arrow
arrows_of turns = arrows_from 0 turns
