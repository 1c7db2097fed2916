-- What the bytes of a script say: its values, or the first thing that is wrong with it (this project's own format).
use Rattle.std.specs.Prelude.{ℕ, ◌||◌, nat_lt, Bool, List, length, Result, Ok, Err, if◌then◌else◌}
use Rattle.std.specs.List.{list_any}
use Rattle.toml.specs.Data.{Members}
use Rattle.tl_map.specs.Numbers.{Numbers}
use Rattle.tl_map.specs.declared.numbers.GeometryNumbers.{GeometryNumbers}
use Rattle.tl_script_words.specs.declared.command.Command.{Command}
use Rattle.tl_script_words.specs.declared.step.Step.{Step}
use Rattle.tl_script.specs.declared.error.ScriptError.{ScriptError}
use Rattle.tl_script.specs.declared.error.ScriptError.TheVariants as error
use Rattle.tl_script.specs.declared.script.Script.{Script}
use Rattle.tl_script.specs.Each.{◌>>=◌, or_fault}
use Rattle.tl_script.specs.Document.{document_of}
use Rattle.tl_script.specs.Numbers.{numbers_of, turns_of, geometry_of}
use Rattle.tl_script.specs.Image.{image_of}
use Rattle.tl_script.specs.Commands.{commands, is_long, command_texts_of, commands_of}
use Rattle.tl_script.specs.Steps.{step_texts_of, steps_of}

-- a script, without where it lies in memory
pub record ScriptValue : Type 0 where
  pub numbers : GeometryNumbers
  pub geometry : Numbers
  pub turns : ℕ
  pub image : List ℕ
  pub commands : List (List Command)
  pub steps : List Step

-- a script's value
abbrev pub value_of : Script → ScriptValue
value_of s = record { numbers = s.numbers; geometry = s.geometry; turns = s.turns; image = s.image.items; commands = commands s.commands.items; steps = s.steps.items }

-- more lists of commands than clients, or more commands of a client or steps than a script may have
abbrev pub are_too_many : ℕ → List (List (List ℕ)) → List (List ℕ) → Bool
are_too_many clients lists steps =
    nat_lt clients (length lists) || list_any is_long lists || nat_lt 4096 (length steps)

-- the commands, where there are not too many of them or of the steps
unfoldable pub counted_of : Numbers → List (List (List ℕ)) → List (List ℕ) → Result (List (List Command)) ScriptError
counted_of geometry lists steps = if are_too_many geometry.clients lists steps then Err error.TooMany else commands_of geometry lists

-- what a document says: the order of the lines is the order of the refusals
unfoldable pub script_of : Members → Result ScriptValue ScriptError
script_of document = do
  numbers ← numbers_of document
  turns ← turns_of document
  geometry ← geometry_of numbers
  image ← image_of geometry document
  lists ← command_texts_of document
  texts ← step_texts_of document
  commands ← counted_of geometry lists texts
  steps ← steps_of texts
  Ok (record { numbers = numbers; geometry = geometry; turns = turns; image = image; commands = commands; steps = steps })

-- what the bytes say
unfoldable pub read_of : List ℕ → Result ScriptValue ScriptError
read_of bytes = or_fault error.NotToml (document_of bytes) >>= script_of
