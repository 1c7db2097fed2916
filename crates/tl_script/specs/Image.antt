-- The image of a script (this project's own format).
use Rattle.std.specs.Prelude.{ℕ, ◌*◌, nat_lt, List, [], length, Option, Some, None, Result, Ok, Err, if◌then◌else◌}
use Rattle.toml.specs.Data.{Data, Members, get_member}
use Rattle.tl_map.specs.Numbers.{Numbers}
use Rattle.tl_script_words.specs.Words.{bytes_of}
use Rattle.tl_script.specs.declared.key.Key.TheVariants as key
use Rattle.tl_script.specs.declared.error.ScriptError.{ScriptError}
use Rattle.tl_script.specs.declared.error.ScriptError.TheVariants as error
use Rattle.tl_script.specs.Key.{name_of}
use Rattle.tl_script.specs.Each.{◌>>=◌}
use Rattle.tl_script.specs.Document.{or_missing, text_in}

-- the bytes that a value writes
unfoldable pub bytes_in : Data → Result (List ℕ) ScriptError
bytes_in value = do
  text ← text_in key.Image value
  or_missing key.Image (bytes_of text)

-- the bytes of the value, where there is one: no more than the memory has
abbrev pub image_in : Numbers → Option Data → Result (List ℕ) ScriptError
image_in geometry None = Ok []
image_in geometry (Some value) = do
  bytes ← bytes_in value
  if nat_lt (geometry.memory_blocks * geometry.block_bytes) (length bytes) then Err (error.Missing key.Image) else Ok bytes

-- the first bytes of the memory
unfoldable pub image_of : Numbers → Members → Result (List ℕ) ScriptError
image_of geometry document = image_in geometry (get_member (name_of key.Image) document)
