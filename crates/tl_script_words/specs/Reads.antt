-- What a reader of a text answered, beside what the grammar says of the text.
use Rattle.std.specs.Prelude.{◌≡◌, Option, Some, None, Result, Ok, Err}
use Rattle.tl_script_words.specs.declared.error.ParseError.{ParseError}
use Rattle.tl_script_words.specs.declared.error.ParseError.TheVariants.{Malformed, Memory}

-- the text has no value, unless memory ran out
abbrev pub Refuses : {Y : Type 0} → ParseError → Option Y → Type 0
Refuses Malformed value = value ≡ None
Refuses Memory value = Unit {0}

-- the value that was read, seen by view, is the text's
abbrev pub Reads : {X Y : Type 0} → (X → Y) → Result X ParseError → Option Y → Type 0
Reads view (Ok x) value = value ≡ Some (view x)
Reads view (Err e) value = Refuses e value

infixl 10 ◌>>=◌
-- the next part of a text, where the one before it is in the grammar
abbrev pub ◌>>=◌ : {A B : Type 0} → Option A → (A → Option B) → Option B
(Some x) >>= f = f x
None >>= f = None
