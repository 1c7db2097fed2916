-- The commands of a client (this project's own format).
use Rattle.std.specs.Prelude.{ℕ, if◌then◌else◌, List, [], ◌∷◌, codes, bytes_eq, Option, Some, None}
use Rattle.tl_script_words.specs.declared.command.Command.{Command}
use Rattle.tl_script_words.specs.declared.command.Command.TheVariants.{Load, Store, Drop}
use Rattle.tl_script_words.specs.Reads.{◌>>=◌}
use Rattle.tl_script_words.specs.Words.{words_of, address_of, len_of, access_of}

-- `load ADDR LEN`, after its verb
unfoldable pub load_of : List (List ℕ) → Option Command
load_of (address ∷ len ∷ []) = do
  a ← address_of address
  n ← len_of len
  Some (Load a n)
load_of _ = None

-- `store ADDR HEX`, after its verb
unfoldable pub store_of : List (List ℕ) → Option Command
store_of (address ∷ bytes ∷ []) = do
  a ← address_of address
  bs ← access_of bytes
  Some (Store a bs)
store_of _ = None

-- `drop ADDR`, after its verb
unfoldable pub drop_of : List (List ℕ) → Option Command
drop_of (address ∷ []) = do
  a ← address_of address
  Some (Drop a)
drop_of _ = None

-- the command that some words write
unfoldable pub command_in : List (List ℕ) → Option Command
command_in [] = None
command_in (verb ∷ arguments) =
    if bytes_eq verb (codes "load") then load_of arguments
    else if bytes_eq verb (codes "store") then store_of arguments
    else if bytes_eq verb (codes "drop") then drop_of arguments
    else None

-- the command that a text writes
abbrev pub command_of : List ℕ → Option Command
command_of text = command_in (words_of text)
