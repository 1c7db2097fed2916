-- The entry that plain numbers stand for (this project's own numbers of events, which a log is told by too).
use Rattle.std.specs.Prelude.{ℕ, ◌==◌, ◌&&◌, Bool, take, nat_lt, Option, Some, None, if◌then◌else◌}
use Rattle.std.specs.Option.{option_map}
use Rattle.tl_types.specs.declared.limits.TheConstants.{BLOCK_BYTES}
use Rattle.tl_types.specs.Bodies.{has_data}
use Rattle.tl_types.specs.Decoding.{grow_at, probe_at, prune_at}
use Rattle.tl_types.specs.declared.kind.Kind.{Kind}
use Rattle.tl_protocol.specs.declared.event.Access.{Access}
use Rattle.tl_protocol.specs.declared.event.Event.{Event}
use Rattle.tl_protocol.specs.declared.event.Event.TheVariants as event
use Rattle.tlcheck_rules.specs.declared.entry.Entry.{Entry}
use Rattle.tlcheck_rules.specs.declared.entry.Shown.{Shown}
use Rattle.tlcheck_embed.specs.Kinds.{kind_shown}
use Rattle.tlcheck_embed.specs.declared.entry.BenchEntry.{BenchEntry}

-- the access of a load or a store: the first bytes, at most eight
abbrev pub access_in : BenchEntry → Option Access
access_in e =
    if nat_lt 8 e.len then None
    else Some (record { client = e.client; address = e.place; stamp = 0; index = 0; bytes = take e.len e.bytes })

-- the event with a number, where it has the param or the bytes that it needs
abbrev pub event_of : BenchEntry → Option Event
event_of e =
    if e.event == 0 then option_map event.Load (access_in e)
    else if e.event == 1 then option_map event.Store (access_in e)
    else if e.event == 2 then option_map (λ grow. event.SendAcquire e.client e.place grow) (grow_at e.param)
    else if e.event == 3 then option_map (λ prune. event.SendRelease e.client e.place prune) (prune_at e.param)
    else if e.event == 4 then Some (event.AnswerProbe e.client e.place)
    else if e.event == 5 then Some (event.TakeGrant e.client e.place)
    else if e.event == 6 then Some (event.TakeReleaseAck e.client e.place)
    else if e.event == 7 then Some (event.AcceptAcquire e.client e.place)
    else if e.event == 8 then option_map (λ cap. event.SendProbe e.client e.place cap) (probe_at e.param)
    else if e.event == 9 then Some (event.TakeC e.client e.place)
    else if e.event == 10 then Some (event.SendGrant e.client e.place)
    else if e.event == 11 then Some (event.TakeGrantAck e.client e.place)
    else if e.event == 12 then Some (event.SendGet e.place)
    else if e.event == 13 then Some (event.Serve e.place)
    else if e.event == 14 then Some (event.TakeData e.place)
    else if e.event == 15 then Some (event.Drop e.place)
    else if e.event == 16 then Some (event.SendPut e.place)
    else if e.event == 17 then Some (event.TakePutAck e.place)
    else None

-- the events with which a message may be shown: of a client's link, no load and no store
abbrev pub is_shown_of : ℕ → Bool
is_shown_of number = nat_lt 1 number && nat_lt number 12

-- a message of a kind, with its bytes where it carries some, at most `BLOCK_BYTES`, and with none else
abbrev pub message_in : BenchEntry → Kind → Option Shown
message_in e kind =
    if has_data kind then (if nat_lt BLOCK_BYTES e.len then None else Some (record { kind = kind; bytes = Some (take e.len e.bytes) }))
    else if e.len == 0 then Some (record { kind = kind; bytes = None })
    else None

-- the same of a kind that there is
abbrev pub message_of_kind : BenchEntry → Option Kind → Option Shown
message_of_kind e None = None
message_of_kind e (Some kind) = message_in e kind

-- the message that is shown, where one may be
abbrev pub message_of : BenchEntry → Option Shown
message_of e = if is_shown_of e.event then message_of_kind e (kind_shown e.channel e.opcode e.shown_param) else None

-- what is shown: nothing, or a message
abbrev pub shown_of : BenchEntry → Option (Option Shown)
shown_of e =
    if e.shown == 0 then Some None
    else if e.shown == 1 then option_map (λ (shown : Shown). Some shown) (message_of e)
    else None

-- an event with what is shown
abbrev pub entry_in : Event → Option (Option Shown) → Option Entry
entry_in event shown = option_map (λ (s : Option Shown). record { event = event; shown = s }) shown

-- the same of an event that there is
abbrev pub entry_with : BenchEntry → Option Event → Option Entry
entry_with e None = None
entry_with e (Some event) = entry_in event (shown_of e)

-- the entry that the numbers stand for, if any
abbrev pub entry_of : BenchEntry → Option Entry
entry_of e = entry_with e (event_of e)
