-- What the header of a record expects of its exchanges (this project's own format).
use Rattle.std.specs.Prelude.{ℕ, ◌||◌, Bool, true, List, [], ◌∷◌, codes, bytes_eq, Some, Result, Ok, Err, if◌then◌else◌}
use Rattle.tlcheck_record.specs.Cause.{◌>>=◌}
use Rattle.tlcheck_record.specs.Words.{number_in}
use Rattle.tlcheck_record.specs.declared.cause.Cause.{Cause}
use Rattle.tlcheck_record.specs.declared.cause.Cause.TheVariants as cause
use Rattle.tlwire_record.specs.Header.{SettingState}
use Rattle.tlwire_record.specs.Premise.{least}
use Rattle.tlwire_record.specs.declared.expects.Expects.{Expects}

-- the first word of a line that says what is expected
abbrev pub is_expects_word : List ℕ → Bool
is_expects_word word = bytes_eq word (codes "ends") || bytes_eq word (codes "patience")

-- `quiet`, behind `ends`
abbrev pub quiet_in : Expects → List (List ℕ) → Result Expects Cause
quiet_in e (word ∷ []) = if bytes_eq word (codes "quiet") then Ok (record e { quiet = true }) else Err cause.Premise
quiet_in e _ = Err cause.Premise

-- `NUM`, behind `patience`: the least of several counts
unfoldable pub patience_in : Expects → List (List ℕ) → Result Expects Cause
patience_in e (number ∷ []) = number_in number >>= (λ n. Ok (record e { patience = Some (least e.patience n) }))
patience_in e _ = Err cause.Premise

-- with what a line says, by its first word
abbrev pub expects_in : Expects → List ℕ → List (List ℕ) → Result Expects Cause
expects_in e word rest = if bytes_eq word (codes "ends") then quiet_in e rest else patience_in e rest

-- the setting with what a line says of what is expected
abbrev pub expects_taken : SettingState → List ℕ → List (List ℕ) → Result SettingState Cause
expects_taken setting word rest = expects_in setting.expects word rest >>= (λ e. Ok (record setting { expects = e }))
