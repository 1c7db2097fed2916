-- What the lines of a record write, one after another (this project's own format).
use Rattle.std.specs.Prelude.{ℕ, List, [], ◌∷◌, ◌++◌, Option, Some, None, Result, Ok, if◌then◌else◌}
use Rattle.std.specs.Io.BufRead.{strip_last}
use Rattle.tlcheck_rules.specs.declared.entry.Entry.{Entry}
use Rattle.tlcheck_record.specs.Cause.{◌>>=◌}
use Rattle.tlcheck_record.specs.Entry.{entry_of}
use Rattle.tlcheck_record.specs.Header.{head_of, image_of}
use Rattle.tlcheck_record.specs.Words.{is_blank, text_in}
use Rattle.tlcheck_record.specs.declared.cause.Cause.{Cause}
use Rattle.tlcheck_record.specs.declared.header.Head.{Head}

-- what was read so far: nothing, the first line, or the first line, the image and some entries
pub data Reading : Type 0 where
  fresh : Reading
  shaped : Head → Reading
  going : Head → List ℕ → List Entry → Reading

-- the entries that were read
abbrev pub entries_in : Reading → List Entry
entries_in fresh = []
entries_in (shaped head) = []
entries_in (going head image entries) = entries

-- one more entry
abbrev pub with_entry : Head → List ℕ → List Entry → List ℕ → Result Reading Cause
with_entry head image entries line = entry_of line >>= (λ entry. Ok (going head image (entries ++ entry ∷ [])))

-- an image, or the first entry where there is none
abbrev pub image_or_entry : Head → List ℕ → Option (List ℕ) → Result Reading Cause
image_or_entry head line (Some image) = Ok (going head image [])
image_or_entry head line None = with_entry head [] [] line

-- after one more line that is not blank: the geometry first, then an image or none, then the entries; or why it cannot be read
abbrev pub next : Reading → List ℕ → Result Reading Cause
next fresh line = head_of line >>= (λ head. Ok (shaped head))
next (shaped head) line = image_of head.shape line >>= (λ image. image_or_entry head line image)
next (going head image entries) line = with_entry head image entries line

-- after one more line without its line feed
abbrev pub after_text : Reading → List ℕ → Result Reading Cause
after_text reading text = if is_blank text then Ok reading else text_in text >>= (λ t. next reading t)

-- after one more line
abbrev pub after_line : Reading → List ℕ → Result Reading Cause
after_line reading line = after_text reading (strip_last 10 line)

-- after these lines, where each can be read
abbrev pub reading_of : Reading → List (List ℕ) → Result Reading Cause
reading_of reading [] = Ok reading
reading_of reading (line ∷ rest) = after_line reading line >>= (λ then_. reading_of then_ rest)
