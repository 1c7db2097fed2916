-- A chart (this project's own).
use Rattle.std.specs.Prelude.{◌≡◌, ℕ, List, [], ◌∷◌, Option, Some, None}
use Rattle.tlchart_model.specs.Arrow.{arrows_of}
use Rattle.tlchart_model.specs.Change.{changes_of}
use Rattle.tlchart_model.specs.declared.arrow.Arrow.{Arrow}
use Rattle.tlchart_model.specs.declared.chart.Chart.{Chart}
use Rattle.tlchart_model.specs.declared.turn.Turn.{Turn}

-- the block that was asked for, or else that of the first message; block 0 where there is none
abbrev pub chosen : Option ℕ → List Arrow → ℕ
chosen (Some block) arrows = block
chosen None [] = 0
chosen None (first ∷ rest) = first.message.block

-- A chart of what was done in turns between c clients and b banks: a lifeline for each client and each bank, the turns, each message of a
-- turn once as an arrow, and the changes of permissions to its block.
pub record IsChartOf (c b : ℕ) (done : List Turn) (asked : Option ℕ) (chart : Chart) : Type 0 where
  pub clients : chart.clients ≡ c
  pub banks : chart.banks ≡ b
  pub turns : chart.turns.items ≡ done
  pub arrows : chart.arrows.items ≡ arrows_of done
  pub block : chart.block ≡ chosen asked (arrows_of done)
  pub changes : chart.changes.items ≡ changes_of chart.block (arrows_of done)
