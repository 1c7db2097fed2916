-- How far long work is, as it is told (this project's own).
use Rattle.std.specs.Prelude.{ℕ, List, ◌++◌, Option, Some, None, codes, decimal}

-- the lines so far, the share of the file in percent where its size is known, and the lines a second
abbrev pub telling_text : ℕ → Option ℕ → ℕ → List ℕ
telling_text lines (Some percent) rate =
    decimal lines ++ codes " lines, " ++ decimal percent ++ codes " % of the file, " ++ decimal rate ++ codes " lines a second"
telling_text lines None rate = decimal lines ++ codes " lines, " ++ decimal rate ++ codes " lines a second"
