-- What the lines of a record lead to, one after another (this project's own format).
use Rattle.std.specs.Prelude.{ℕ, ◌+◌, ◌==◌, List, [], ◌∷◌, codes, bytes_eq, Result, Ok, Err, if◌then◌else◌}
use Rattle.std.specs.List.{slice_split}
use Rattle.tl_script_words.specs.Words.{words_of}
use Rattle.tlcheck_record.specs.Cause.{◌>>=◌}
use Rattle.tlcheck_record.specs.Words.{image_in, is_blank, text_in}
use Rattle.tlwire_record.specs.Expects.{expects_taken, is_expects_word}
use Rattle.tlwire_record.specs.Header.{SettingState, is_premise_word, is_title, premise_taken, setting_in, sources_taken}
use Rattle.tlwire_record.specs.Left.{ignored_taken}
use Rattle.tlwire_record.specs.Line.{line_in}
use Rattle.tlwire_record.specs.Messages.{MessagesState, began, line_taken}
use Rattle.tlcheck_record.specs.declared.cause.Cause.{Cause}
use Rattle.tlcheck_record.specs.declared.cause.Cause.TheVariants as cause
use Rattle.tlwire_record.specs.declared.stage.Stage.{Stage}
use Rattle.tlwire_record.specs.declared.stage.Stage.TheVariants.{Fresh, Titled, Shaped, Going}

-- one line more of what was seen
abbrev pub going : MessagesState → ℕ → List (List ℕ) → Result Stage Cause
going m number words = line_in words >>= (λ line. line_taken m number line >>= (λ after. Ok (Going after)))

-- a line behind the shape: sources, how the record was seen, what is expected of it, whose lines are left out, the image, or the first of
-- what was seen
abbrev pub shaped_by : SettingState → ℕ → List ℕ → List (List ℕ) → List (List ℕ) → Result Stage Cause
shaped_by setting number word rest words =
    if bytes_eq word (codes "source") then sources_taken setting rest >>= (λ s. Ok (Shaped s))
    else if is_premise_word word then premise_taken setting word rest >>= (λ s. Ok (Shaped s))
    else if is_expects_word word then expects_taken setting word rest >>= (λ s. Ok (Shaped s))
    else if bytes_eq word (codes "ignored") then ignored_taken setting rest >>= (λ s. Ok (Shaped s))
    else if bytes_eq word (codes "image") then image_in setting.shape rest >>= (λ image. Ok (Going (began setting image)))
    else going (began setting []) number words

-- that line, by its first word
abbrev pub next_shaped : SettingState → ℕ → List (List ℕ) → Result Stage Cause
next_shaped setting number [] = Err cause.Words
next_shaped setting number (word ∷ rest) = shaped_by setting number word rest (word ∷ rest)

-- a line that is not blank: the title first, then the shape, then sources, an image or none, and what was seen
abbrev pub next : Stage → ℕ → List (List ℕ) → Result Stage Cause
next Fresh number words = if is_title words then Ok Titled else Err cause.Title
next Titled number words = setting_in words >>= (λ s. Ok (Shaped s))
next (Shaped setting) number words = next_shaped setting number words
next (Going m) number words = going m number words

-- the words of a line that is not blank
abbrev pub text_taken : Stage → ℕ → List ℕ → Result Stage Cause
text_taken stage number text = next stage number (words_of text)

-- the line with this number, without its line feed
abbrev pub after_text : Stage → ℕ → List ℕ → Result Stage Cause
after_text stage number text =
    if is_blank text then Ok stage else text_in text >>= (λ t. text_taken stage number t)

-- the lines of a text, without their line feeds
abbrev pub lines_of : List ℕ → List (List ℕ)
lines_of text = slice_split (λ b. b == 10) text

-- why a line cannot be read, with its number
abbrev pub at_line : {A : Type 0} → ℕ → Result A Cause → Result A (ℕ × Cause)
at_line number (Ok x) = Ok x
at_line number (Err f) = Err (number, f)

-- the next lines, where those before them are in the format
abbrev pub and_then : {A B : Type 0} → Result A (ℕ × Cause) → (A → Result B (ℕ × Cause)) → Result B (ℕ × Cause)
and_then (Ok x) f = f x
and_then (Err e) f = Err e

-- where some lines lead, which stand behind so many
abbrev pub after_lines : ℕ → Stage → List (List ℕ) → Result Stage (ℕ × Cause)
after_lines count stage [] = Ok stage
after_lines count stage (line ∷ rest) =
    and_then (at_line (count + 1) (after_text stage (count + 1) line)) (λ after. after_lines (count + 1) after rest)

-- where the lines of a text lead, or the first that is outside the format, by its number from 1 on
abbrev pub reading_of : List ℕ → Result Stage (ℕ × Cause)
reading_of text = after_lines 0 Fresh (lines_of text)
