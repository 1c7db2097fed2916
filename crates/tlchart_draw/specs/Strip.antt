-- The last lines of a record's block, up to the one that broke, as they are drawn (this project's own).
use Rattle.std.specs.Prelude.{◌≡◌, ℕ, ◌-◌, Bool, true, false, List, [], ◌∷◌, ◌++◌, drop, length, map, string_bytes, Option, Some, None}
use Rattle.std.specs.List.{All}
use Rattle.tlchart_draw.specs.declared.strip.Row.{Row}
use Rattle.tlchart_draw.specs.declared.strip.TheConstants.{LINES_BEFORE}
use Rattle.tlchart_model.specs.declared.turn.Mark.{Mark}
use Rattle.tlchart_model.specs.declared.turn.Mark.TheVariants.{Broken}

-- the last so many, or all where there are fewer
abbrev pub last_of : {X : Type 0} → ℕ → List X → List X
last_of count xs = drop (length xs - count) xs

-- a mark is that of a line that broke
abbrev pub is_broken : Option Mark → Bool
is_broken (Some (Broken words)) = true
is_broken _ = false

-- the line of a row did not break
abbrev pub IsUnbroken : Row → Type 0
IsUnbroken row = is_broken row.turn.mark ≡ false

-- a mark has these words
abbrev pub IsBrokenBy : List ℕ → Option Mark → Type 0
IsBrokenBy words (Some (Broken text)) = string_bytes text ≡ words
IsBrokenBy words _ = ⊥

-- The row of a line that broke: it has the line's number, sends nothing, and has a mark with these words.
pub record IsBrokenRow (line : ℕ) (words : List ℕ) (row : Row) : Type 0 where
  pub number : row.line.number ≡ line
  pub sends : row.turn.sends ≡ None
  pub mark : IsBrokenBy words row.turn.mark

-- The rows of a strip: of the lines with these numbers the last 39, in their order, none of which broke; and behind them the line that
-- broke, whose mark says so.
pub record IsStrip (numbers : List ℕ) (line : ℕ) (words : List ℕ) (rows : List Row) : Type 0 where
  pub before : List Row
  pub last : Row
  pub order : rows ≡ before ++ last ∷ []
  pub numbered : map (λ (row : Row). row.line.number) before ≡ last_of LINES_BEFORE numbers
  pub unbroken : All IsUnbroken before
  pub broken : IsBrokenRow line words last
