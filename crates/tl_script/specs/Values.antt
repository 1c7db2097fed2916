-- What the program sees of a document's values, where it reads texts of them (this project's own).
use Rattle.std.specs.Prelude.{ℕ, Bool, ◌&&◌, List, [], map, is_some, unwrap_or}
use Rattle.std.specs.List.{list_all}
use Rattle.toml.specs.Data.{Data, no_items, as_str, as_array}
use Rattle.toml.specs.View.{view}
use Rattle.toml.specs.declared.value.Value.{Value}
use Rattle.tl_script.specs.Document.{list_of}

-- the values in an array; none where the value is another
abbrev pub values_of : Data → List Data
values_of value = list_of (unwrap_or (as_array value) no_items)

-- a value is an array of texts
abbrev pub are_texts : Data → Bool
are_texts value = is_some (as_array value) && list_all (λ e. is_some (as_str e)) (values_of value)

-- the text that a value is; empty where it is none
abbrev pub text_of : Data → List ℕ
text_of value = unwrap_or (as_str value) []

-- the texts in an array
abbrev pub texts_of : Data → List (List ℕ)
texts_of value = map text_of (values_of value)

-- the texts that some values are
abbrev pub words : List Value → List (List ℕ)
words values = map (λ v. text_of (view v)) values

-- the texts in some arrays
abbrev pub lists : List Value → List (List (List ℕ))
lists values = map (λ v. texts_of (view v)) values
