-- How an entry prints: the line of a record that stands for it (this project's own format; the words are those of a trace).
use Rattle.std.specs.Prelude.{◌≡◌, ℕ, ◌^◌, ◌<◌, ◌≤◌, List, [], ◌++◌, length, All, Option, Some, None, codes, decimal}
use Rattle.tl_types.specs.declared.limits.TheConstants.{BLOCK_BYTES}
use Rattle.tl_types.specs.Text.{grow_text, kind_text, probe_cap_text, prune_text}
use Rattle.tl_types.specs.declared.kind.Kind.{Kind}
use Rattle.tl_types.specs.declared.kind.Kind.TheVariants as kind
use Rattle.tl_script_words.specs.Hex.{address_text, carried_text, hex_text}
use Rattle.tl_protocol.specs.declared.event.Access.{Access}
use Rattle.tl_protocol.specs.declared.event.Event.{Event}
use Rattle.tl_protocol.specs.declared.event.Event.TheVariants.{Load, Store, SendAcquire, SendRelease, AnswerProbe, TakeGrant, TakeReleaseAck, AcceptAcquire, SendProbe, TakeC, SendGrant, TakeGrantAck, SendGet, Serve, TakeData, Drop, SendPut, TakePutAck}
use Rattle.tlcheck_rules.specs.declared.entry.Entry.{Entry}
use Rattle.tlcheck_rules.specs.declared.entry.Shown.{Shown}

-- ## The line

-- `CLIENT ADDR HEX`
abbrev pub access_text : Access → List ℕ
access_text a = decimal a.client ++ (codes " " ++ address_text a.address ++ codes " " ++ hex_text a.bytes)

-- `CLIENT BLOCK`
abbrev pub pair_text : ℕ → ℕ → List ℕ
pair_text c block = decimal c ++ codes " " ++ decimal block

-- an event's verb, and what it carries
abbrev pub event_text : Event → List ℕ
event_text (Load access) = codes "load " ++ access_text access
event_text (Store access) = codes "store " ++ access_text access
event_text (SendAcquire c block grow) = codes "acquire " ++ pair_text c block ++ codes " " ++ grow_text grow
event_text (SendRelease c block prune) = codes "release " ++ pair_text c block ++ codes " " ++ prune_text prune
event_text (AnswerProbe c block) = codes "answer_probe " ++ pair_text c block
event_text (TakeGrant c block) = codes "take_grant " ++ pair_text c block
event_text (TakeReleaseAck c block) = codes "take_release_ack " ++ pair_text c block
event_text (AcceptAcquire c block) = codes "accept " ++ pair_text c block
event_text (SendProbe c block cap) = codes "probe " ++ pair_text c block ++ codes " " ++ probe_cap_text cap
event_text (TakeC c block) = codes "take_c " ++ pair_text c block
event_text (SendGrant c block) = codes "grant " ++ pair_text c block
event_text (TakeGrantAck c block) = codes "take_grant_ack " ++ pair_text c block
event_text (SendGet block) = codes "get " ++ decimal block
event_text (Serve block) = codes "serve " ++ decimal block
event_text (TakeData block) = codes "take_data " ++ decimal block
event_text (Drop block) = codes "drop " ++ decimal block
event_text (SendPut block) = codes "put " ++ decimal block
event_text (TakePutAck block) = codes "take_put_ack " ++ decimal block

-- a message's kind, and its bytes where it carries some
abbrev pub message_text : Kind → Option (List ℕ) → List ℕ
message_text k bytes = kind_text k ++ carried_text bytes

-- what is shown, with a space before it, or nothing
abbrev pub shown_text : Option Shown → List ℕ
shown_text None = []
shown_text (Some shown) = codes " " ++ message_text shown.kind shown.bytes

-- the event, and what is shown
abbrev pub entry_text : Entry → List ℕ
entry_text entry = event_text entry.event ++ shown_text entry.shown

-- ## What the format has a line for

-- 1 to 8 bytes of a client, at an address of 32 bits
pub record HasWords (a : Access) : Type 0 where
  pub client : a.client < 2 ^ 32
  pub address : a.address < 2 ^ 32
  pub some : 0 < length a.bytes
  pub most : length a.bytes ≤ 8
  pub bytes : All (λ b. b < 256) a.bytes

-- a client and a block of 32 bits
abbrev pub AreOfWidth : ℕ → ℕ → Type 0
AreOfWidth c block = (c < 2 ^ 32) × (block < 2 ^ 32)

-- an event's numbers are of 32 bits, and its access of 1 to 8 bytes
abbrev pub HasLine : Event → Type 0
HasLine (Load access) = HasWords access
HasLine (Store access) = HasWords access
HasLine (SendAcquire c block grow) = AreOfWidth c block
HasLine (SendRelease c block prune) = AreOfWidth c block
HasLine (AnswerProbe c block) = AreOfWidth c block
HasLine (TakeGrant c block) = AreOfWidth c block
HasLine (TakeReleaseAck c block) = AreOfWidth c block
HasLine (AcceptAcquire c block) = AreOfWidth c block
HasLine (SendProbe c block cap) = AreOfWidth c block
HasLine (TakeC c block) = AreOfWidth c block
HasLine (SendGrant c block) = AreOfWidth c block
HasLine (TakeGrantAck c block) = AreOfWidth c block
HasLine (SendGet block) = block < 2 ^ 32
HasLine (Serve block) = block < 2 ^ 32
HasLine (TakeData block) = block < 2 ^ 32
HasLine (Drop block) = block < 2 ^ 32
HasLine (SendPut block) = block < 2 ^ 32
HasLine (TakePutAck block) = block < 2 ^ 32

-- at most `BLOCK_BYTES` bytes
abbrev pub AreBlockBytes : Option (List ℕ) → Type 0
AreBlockBytes None = ⊥
AreBlockBytes (Some bytes) = (length bytes ≤ BLOCK_BYTES) × All (λ b. b < 256) bytes

-- a message between home and a client, with bytes exactly where its kind has them
abbrev pub IsMessage : Kind → Option (List ℕ) → Type 0
IsMessage kind.PutFullData bytes = ⊥
IsMessage kind.Get bytes = ⊥
IsMessage (kind.AcquireBlock grow) bytes = bytes ≡ None
IsMessage (kind.ProbeBlock cap) bytes = bytes ≡ None
IsMessage (kind.ProbeAck report) bytes = bytes ≡ None
IsMessage (kind.ProbeAckData prune) bytes = AreBlockBytes bytes
IsMessage (kind.Release prune) bytes = bytes ≡ None
IsMessage (kind.ReleaseData prune) bytes = AreBlockBytes bytes
IsMessage kind.AccessAck bytes = ⊥
IsMessage kind.AccessAckData bytes = ⊥
IsMessage (kind.Grant cap) bytes = bytes ≡ None
IsMessage (kind.GrantData cap) bytes = AreBlockBytes bytes
IsMessage kind.ReleaseAck bytes = bytes ≡ None
IsMessage kind.GrantAck bytes = bytes ≡ None

-- nothing is shown, or such a message
abbrev pub IsShowable : Option Shown → Type 0
IsShowable None = Unit {0}
IsShowable (Some shown) = IsMessage shown.kind shown.bytes

-- of a load, of a store and of what home and the memory do between them nothing is shown
abbrev pub MayShow : Event → Option Shown → Type 0
MayShow (Load access) shown = shown ≡ None
MayShow (Store access) shown = shown ≡ None
MayShow (SendAcquire c block grow) shown = IsShowable shown
MayShow (SendRelease c block prune) shown = IsShowable shown
MayShow (AnswerProbe c block) shown = IsShowable shown
MayShow (TakeGrant c block) shown = IsShowable shown
MayShow (TakeReleaseAck c block) shown = IsShowable shown
MayShow (AcceptAcquire c block) shown = IsShowable shown
MayShow (SendProbe c block cap) shown = IsShowable shown
MayShow (TakeC c block) shown = IsShowable shown
MayShow (SendGrant c block) shown = IsShowable shown
MayShow (TakeGrantAck c block) shown = IsShowable shown
MayShow (SendGet block) shown = shown ≡ None
MayShow (Serve block) shown = shown ≡ None
MayShow (TakeData block) shown = shown ≡ None
MayShow (Drop block) shown = shown ≡ None
MayShow (SendPut block) shown = shown ≡ None
MayShow (TakePutAck block) shown = shown ≡ None

-- ## What is read back

-- an access as a record has it: with no stamp and no index
abbrev pub plain_access : Access → Access
plain_access a = record a { stamp = 0; index = 0 }

-- the event, with its access so
abbrev pub plain_event : Event → Event
plain_event (Load access) = Load (plain_access access)
plain_event (Store access) = Store (plain_access access)
plain_event e = e

-- the entry that is read where an event with what it shows was written
abbrev pub plain_entry : Entry → Entry
plain_entry entry = record { event = plain_event entry.event; shown = entry.shown }
