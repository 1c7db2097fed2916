-- The lines of a record that stand for events (this project's own format; the words are those of a trace).
use Rattle.std.specs.Prelude.{ℕ, List, [], ◌∷◌, codes, bytes_eq, None, Result, Ok, Err, if◌then◌else◌}
use Rattle.tl_script_words.specs.Words.{words_of}
use Rattle.tl_protocol.specs.declared.event.Access.{Access}
use Rattle.tl_protocol.specs.declared.event.Event.{Event}
use Rattle.tl_protocol.specs.declared.event.Event.TheVariants as event
use Rattle.tlcheck_rules.specs.declared.entry.Entry.{Entry}
use Rattle.tlcheck_record.specs.declared.entries.ClientCall.{ClientCall}
use Rattle.tlcheck_record.specs.declared.entries.ClientCall.TheVariants as call
use Rattle.tlcheck_record.specs.declared.entries.HomeCall.{HomeCall}
use Rattle.tlcheck_record.specs.declared.entries.HomeCall.TheVariants as home
use Rattle.tlcheck_record.specs.Cause.{◌>>=◌}
use Rattle.tlcheck_record.specs.Shown.{probe_cap_of, shown_of}
use Rattle.tlcheck_record.specs.Words.{access_bytes_in, address_in, grow_in, number_in, prune_in}
use Rattle.tlcheck_record.specs.declared.cause.Cause.{Cause}
use Rattle.tlcheck_record.specs.declared.cause.Cause.TheVariants as cause

-- the event of a client and a block that a verb stands for
abbrev pub client_event : ClientCall → ℕ → ℕ → Event
client_event call.AnswerProbe c b = event.AnswerProbe c b
client_event call.TakeGrant c b = event.TakeGrant c b
client_event call.TakeReleaseAck c b = event.TakeReleaseAck c b
client_event call.AcceptAcquire c b = event.AcceptAcquire c b
client_event call.TakeC c b = event.TakeC c b
client_event call.SendGrant c b = event.SendGrant c b
client_event call.TakeGrantAck c b = event.TakeGrantAck c b

-- the event of a block that a verb stands for
abbrev pub home_event : HomeCall → ℕ → Event
home_event home.SendGet b = event.SendGet b
home_event home.Serve b = event.Serve b
home_event home.TakeData b = event.TakeData b
home_event home.Drop b = event.Drop b
home_event home.SendPut b = event.SendPut b
home_event home.TakePutAck b = event.TakePutAck b

-- `CLIENT ADDR HEX`: a load or a store
unfoldable pub access_in : List (List ℕ) → Result Access Cause
access_in (client ∷ address ∷ bytes ∷ []) =
    number_in client
    >>= (λ c. address_in address
    >>= (λ a. access_bytes_in bytes
    >>= (λ bs. Ok (record { client = c; address = a; bytes = bs; stamp = 0; index = 0 }))))
access_in (client ∷ address ∷ bytes ∷ more ∷ rest) = Err cause.MoreWords
access_in _ = Err cause.Words

-- an event, and what is shown of it
abbrev pub showing : Event → List (List ℕ) → Result Entry Cause
showing e rest = shown_of rest >>= (λ shown. Ok (record { event = e; shown = shown }))

-- `CLIENT BLOCK`, and what is shown
unfoldable pub client_entry : ClientCall → List (List ℕ) → Result Entry Cause
client_entry verb (client ∷ block ∷ rest) =
    number_in client >>= (λ c. number_in block >>= (λ b. showing (client_event verb c b) rest))
client_entry verb _ = Err cause.Words

-- `BLOCK`
unfoldable pub home_entry : HomeCall → List (List ℕ) → Result Entry Cause
home_entry verb [] = Err cause.Words
home_entry verb (block ∷ []) = number_in block >>= (λ b. Ok (record { event = home_event verb b; shown = None }))
home_entry verb _ = Err cause.MoreWords

-- `CLIENT BLOCK GROW`, and what is shown
unfoldable pub acquire_in : List (List ℕ) → Result Entry Cause
acquire_in (client ∷ block ∷ grow ∷ rest) =
    number_in client
    >>= (λ c. number_in block >>= (λ b. grow_in grow >>= (λ g. showing (event.SendAcquire c b g) rest)))
acquire_in _ = Err cause.Words

-- `CLIENT BLOCK PRUNE`, and what is shown
unfoldable pub release_in : List (List ℕ) → Result Entry Cause
release_in (client ∷ block ∷ prune ∷ rest) =
    number_in client
    >>= (λ c. number_in block >>= (λ b. prune_in prune >>= (λ p. showing (event.SendRelease c b p) rest)))
release_in _ = Err cause.Words

-- `CLIENT BLOCK CAP`, and what is shown
unfoldable pub probe_in : List (List ℕ) → Result Entry Cause
probe_in (client ∷ block ∷ asked ∷ rest) =
    number_in client
    >>= (λ c. number_in block >>= (λ b. probe_cap_of asked >>= (λ p. showing (event.SendProbe c b p) rest)))
probe_in _ = Err cause.Words

-- a load or a store, of which nothing is shown
abbrev pub with_access : (Access → Event) → Result Access Cause → Result Entry Cause
with_access as_event access = access >>= (λ a. Ok (record { event = as_event a; shown = None }))

-- the entry that a verb and its arguments write
unfoldable pub entry_by : List ℕ → List (List ℕ) → Result Entry Cause
entry_by verb arguments =
    if bytes_eq verb (codes "load") then with_access event.Load (access_in arguments)
    else if bytes_eq verb (codes "store") then with_access event.Store (access_in arguments)
    else if bytes_eq verb (codes "acquire") then acquire_in arguments
    else if bytes_eq verb (codes "release") then release_in arguments
    else if bytes_eq verb (codes "probe") then probe_in arguments
    else if bytes_eq verb (codes "answer_probe") then client_entry call.AnswerProbe arguments
    else if bytes_eq verb (codes "take_grant") then client_entry call.TakeGrant arguments
    else if bytes_eq verb (codes "take_release_ack") then client_entry call.TakeReleaseAck arguments
    else if bytes_eq verb (codes "accept") then client_entry call.AcceptAcquire arguments
    else if bytes_eq verb (codes "take_c") then client_entry call.TakeC arguments
    else if bytes_eq verb (codes "grant") then client_entry call.SendGrant arguments
    else if bytes_eq verb (codes "take_grant_ack") then client_entry call.TakeGrantAck arguments
    else if bytes_eq verb (codes "get") then home_entry home.SendGet arguments
    else if bytes_eq verb (codes "serve") then home_entry home.Serve arguments
    else if bytes_eq verb (codes "take_data") then home_entry home.TakeData arguments
    else if bytes_eq verb (codes "drop") then home_entry home.Drop arguments
    else if bytes_eq verb (codes "put") then home_entry home.SendPut arguments
    else if bytes_eq verb (codes "take_put_ack") then home_entry home.TakePutAck arguments
    else Err cause.Verb

-- the entry that some words write
unfoldable pub entry_in : List (List ℕ) → Result Entry Cause
entry_in [] = Err cause.Words
entry_in (verb ∷ arguments) = entry_by verb arguments

-- the entry that a line writes
abbrev pub entry_of : List ℕ → Result Entry Cause
entry_of line = entry_in (words_of line)
