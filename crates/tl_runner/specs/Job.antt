-- What the words after the program's name ask for, by the definitions of `clap`.
use Rattle.std.specs.Prelude.{ℕ, Bool, true, List, [], ◌∷◌, codes, bytes_eq, Option, Some, None, option_map, option_and_then}
use Rattle.clap.specs.Words.{App, Kinds, Row, Rule, Text, fault_of, first_of, new_app, new_rule, subcommand_of, with_rule, with_subcommand}
use Rattle.clap.specs.declared.builder.action.ArgAction.TheVariants.{Set}

-- the one required file of a subcommand
abbrev pub file_rule : Rule
file_rule = record (new_rule (codes "file")) { required = true; action = Some Set }

-- a subcommand with one required file
abbrev pub with_file : List ℕ → App
with_file name = with_rule (new_app name) file_rule

-- a command line that wants a subcommand
abbrev pub bare : App
bare = let a = new_app (codes "tlcache") in record a { top = record a.top { no_binary_name = true; subcommand_required = true } }

-- the command line: `run FILE` or `trace FILE`, and no more
abbrev pub tlcache : App
tlcache = with_subcommand (with_subcommand bare (with_file (codes "run")).top) (with_file (codes "trace")).top

-- whether the subcommand that was met is `trace`, and its file
abbrev pub job_in : Text × List Row → Option (Bool × Text)
job_in found = option_map (λ file. (bytes_eq found.0 (codes "trace"), file)) (first_of (codes "file") found.1)

-- the job of the subcommand that was met, if one was
abbrev pub job_of : Option (Text × List Row) → Option (Bool × Text)
job_of = option_and_then job_in

-- the job, where the parse has no fault
abbrev pub unless_refused : Kinds → Option (Bool × Text) → Option (Bool × Text)
unless_refused [] job = job
unless_refused (kind ∷ kinds) job = None

-- what the words ask a command line for; nothing where `clap` refuses them for another cause than memory
abbrev pub asked_in : App → List Text → Option (Bool × Text)
asked_in app words = unless_refused (fault_of app words) (job_of (subcommand_of app words))

-- what the words ask for
abbrev pub asked_of : List Text → Option (Bool × Text)
asked_of words = asked_in tlcache words
