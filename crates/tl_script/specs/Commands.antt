-- The commands of a script (this project's own format).
use Rattle.std.specs.Prelude.{ℕ, ◌-◌, nat_lt, Bool, List, [], ◌++◌, length, map, replicate, Option, Some, None, Result, Ok, Err, Vec, if◌then◌else◌}
use Rattle.std.specs.List.{list_all}
use Rattle.std.specs.declared.alloc.Global.{Global}
use Rattle.toml.specs.Data.{Data, Members, as_array, get_member}
use Rattle.tl_map.specs.Numbers.{Numbers}
use Rattle.tl_map.specs.Places.{has_bytes}
use Rattle.tl_script_words.specs.declared.command.Command.{Command}
use Rattle.tl_script_words.specs.declared.command.Command.TheVariants.{Load, Store, Drop}
use Rattle.tl_script_words.specs.Command.{command_of}
use Rattle.tl_script.specs.declared.key.Key.TheVariants as key
use Rattle.tl_script.specs.declared.error.ScriptError.{ScriptError}
use Rattle.tl_script.specs.declared.error.ScriptError.TheVariants as error
use Rattle.tl_script.specs.Key.{name_of}
use Rattle.tl_script.specs.Each.{◌>>=◌, each}
use Rattle.tl_script.specs.Document.{or_missing, list_of, texts_in}

-- the commands of some lists
abbrev pub commands : List (Vec Command Global) → List (List Command)
commands vs = map (λ v. v.items) vs

-- the texts of each client's commands, in an array of arrays
unfoldable pub lists_in : Data → Result (List (List (List ℕ))) ScriptError
lists_in value = do
  items ← or_missing key.Commands (as_array value)
  each (λ _ e. texts_in key.Commands e) 0 (list_of items)

-- the same, where there is a value
abbrev pub lists_at : Option Data → Result (List (List (List ℕ))) ScriptError
lists_at None = Ok []
lists_at (Some value) = lists_in value

-- the texts of each client's commands
unfoldable pub command_texts_of : Members → Result (List (List (List ℕ))) ScriptError
command_texts_of document = lists_at (get_member (name_of key.Commands) document)

-- a client has more than 4,096 commands
abbrev pub is_long : List (List ℕ) → Bool
is_long texts = nat_lt 4096 (length texts)

-- the bytes of a command lie in the memory and in one block; for a drop, the one at its address
abbrev pub fits : Numbers → Command → Bool
fits geometry (Load address len) = has_bytes geometry address len
fits geometry (Store address bytes) = has_bytes geometry address (length bytes)
fits geometry (Drop address) = has_bytes geometry address 1

-- every command of every client fits
abbrev pub all_fit : Numbers → List (List Command) → Bool
all_fit geometry lists = list_all (λ commands. list_all (fits geometry) commands) lists

-- the command, where it is in the grammar and fits
abbrev pub if_fits : Numbers → ℕ → ℕ → Option Command → Result Command ScriptError
if_fits geometry client index None = Err (error.Command client index)
if_fits geometry client index (Some command) = if fits geometry command then Ok command else Err (error.Command client index)

-- the command of a client at an index
unfoldable pub command_at : Numbers → ℕ → ℕ → List ℕ → Result Command ScriptError
command_at geometry client index text = if_fits geometry client index (command_of text)

-- the commands of a client
unfoldable pub commands_of_client : Numbers → ℕ → List (List ℕ) → Result (List Command) ScriptError
commands_of_client geometry client texts = each (command_at geometry client) 0 texts

-- a list for each client, empty where the document has none
unfoldable pub commands_of : Numbers → List (List (List ℕ)) → Result (List (List Command)) ScriptError
commands_of geometry lists = do
  given ← each (commands_of_client geometry) 0 lists
  Ok (given ++ replicate (geometry.clients - length given) [])
