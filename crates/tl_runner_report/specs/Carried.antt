-- The commands of a script, and the accesses that carry them out (this project's own).
use Rattle.std.specs.Prelude.{◌≡◌, ◌<◌, ◌==◌, ℕ, Bool, true, false, List, [], length, map, slice_get, slice_index_or, count_by, All, Option, Some, None, Vec}
use Rattle.std.specs.declared.alloc.Global.{Global}
use Rattle.tl_protocol.specs.declared.event.Access.{Access}
use Rattle.tl_protocol.specs.declared.event.Event.{Event}
use Rattle.tl_protocol.specs.declared.event.Event.TheVariants.{Load as Loaded, Store as Stored}
use Rattle.tl_text.specs.declared.report.Answered.{Answered}
use Rattle.tl_script_words.specs.declared.command.Command.{Command}
use Rattle.tl_script_words.specs.declared.command.Command.TheVariants.{Load, Store, Drop}
use Rattle.tl_protocol.specs.OneMemory.{access_of}
use Rattle.tl_rules.specs.Certified.{all_accesses}

-- whether a command is a load or a store
abbrev pub makes_access : Command → Bool
makes_access (Load address len) = true
makes_access (Store address bytes) = true
makes_access (Drop address) = false

-- an event carries out a command: a load of as many bytes from its address on, or a store of its bytes there
abbrev pub CarriesOut : Command → Event → Type 0
CarriesOut (Load address len) (Loaded access) = (access.address ≡ address) × (length access.bytes ≡ len)
CarriesOut (Store address bytes) (Stored access) = (access.address ≡ address) × (access.bytes ≡ bytes)
CarriesOut command event = ⊥

-- whether it is an access of a client
abbrev pub is_of_client : ℕ → Option Access → Bool
is_of_client client None = false
is_of_client client (Some access) = access.client == client

-- whether an event is one
abbrev pub is_by : ℕ → Event → Bool
is_by client event = is_of_client client (access_of event)

-- the commands of a client, none where there is no such client
abbrev pub commands_of : List (List Command) → ℕ → List Command
commands_of commands client = slice_index_or commands client []

-- an access has a command at its index, among those of its client, and carries it out; another event says nothing
abbrev pub HasCommand : List (List Command) → Event → Option Access → Type 0
HasCommand commands event None = Unit {0}
HasCommand commands event (Some access) =
    (command : Command) × (slice_get (commands_of commands access.client) access.index ≡ Some command) × CarriesOut command event

-- each access of some logs carries out the command at its index
abbrev pub EachHasCommand : List (List Command) → List (List Event) → Type 0
EachHasCommand commands logs = All (λ log. All (λ e. HasCommand commands e (access_of e)) log) logs

-- each client has as many accesses as loads and stores among its commands
abbrev pub AreAsMany : List (List Command) → List (List Event) → Type 0
AreAsMany commands logs =
    (client : ℕ) → client < length commands
    → count_by (λ (a : Access). a.client == client) (all_accesses logs) ≡ count_by makes_access (commands_of commands client)

-- the bytes of an access, none where there is none
abbrev pub bytes_in : Option Access → List ℕ
bytes_in None = []
bytes_in (Some access) = access.bytes

-- a line of a report answers an access: it has a command that the access carries out, and the access's bytes
abbrev pub Answers : Answered → Event → Type 0
Answers line event = CarriesOut line.command event × (line.bytes ≡ bytes_in (access_of event))

-- whether a line is of a load or a store
abbrev pub is_line : Answered → Bool
is_line line = makes_access line.command

-- the lines of a client, none where there is no such client
abbrev pub lines_of : List (Vec Answered Global) → ℕ → List Answered
lines_of clients client = slice_index_or (map (λ (lines : Vec Answered Global). lines.items) clients) client []
