-- Which scripts have a page (this project's own format).
use Rattle.std.specs.Prelude.{ℕ, ◌≤◌, List}
use Rattle.tlchart_page.specs.Draw.{Writes}

-- the bytes write a script with steps
abbrev pub IsPaged : List ℕ → Type 0
IsPaged bytes = (steps : ℕ) × Writes bytes steps × (steps ≤ 4096)
