-- What a writer holds after a text was written, whole or not (this project's own).
use Rattle.std.specs.Prelude.{◌≡◌, ℕ, List, ◌++◌, Option}
use Rattle.std.specs.Io.KnownBytes.{Appends}

-- What was written is the text, or a beginning of it where the writer took no more.
pub record AppendsBeginning (old new : Option (List ℕ)) (text : List ℕ) : Type 0 where
  pub written : List ℕ
  pub rest : List ℕ
  pub split : text ≡ written ++ rest
  pub appended : Appends old new written
