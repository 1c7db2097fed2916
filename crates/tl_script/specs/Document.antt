-- The document of a script, and the values of its keys (TOML 1.0, by the definitions of `toml`).
use Rattle.std.specs.Prelude.{ℕ, ℤ, List, [], ◌∷◌, Option, None, Result, option_and_then, if◌then◌else◌}
use Rattle.std.specs.Str.{is_utf8}
use Rattle.toml.specs.Data.{Data, Items, no_items, item, Members, as_str, as_integer, as_array, get_member}
use Rattle.toml.specs.Parse.{parse_document}
use Rattle.tl_script.specs.declared.key.Key.{Key}
use Rattle.tl_script.specs.declared.error.ScriptError.{ScriptError}
use Rattle.tl_script.specs.declared.error.ScriptError.TheVariants as error
use Rattle.tl_script.specs.Key.{name_of}
use Rattle.tl_script.specs.Each.{◌>>=◌, or_fault, each}

-- the document that the bytes write
abbrev pub document_of : List ℕ → Option Members
document_of bytes = if is_utf8 bytes then parse_document bytes else None

-- the value, or else the fault of its key
abbrev pub or_missing : {A : Type 0} → Key → Option A → Result A ScriptError
or_missing key value = or_fault (error.Missing key) value

-- the whole number at a key
unfoldable pub integer_at : Key → Members → Result ℤ ScriptError
integer_at key document = or_missing key (option_and_then as_integer (get_member (name_of key) document))

-- the items as a list
abbrev pub list_of : Items → List Data
list_of no_items = []
list_of (item d ds) = d ∷ list_of ds

-- the text that a value at a key is
unfoldable pub text_in : Key → Data → Result (List ℕ) ScriptError
text_in key value = or_missing key (as_str value)

-- the texts that an array at a key has
unfoldable pub texts_in : Key → Data → Result (List (List ℕ)) ScriptError
texts_in key value = do
  items ← or_missing key (as_array value)
  each (λ _ e. text_in key e) 0 (list_of items)
