-- What the memory, home and the clients hold of a block, in lines (this project's own format; the names are TileLink's).
use Rattle.std.specs.Prelude.{ℕ, zero, suc, ◌==◌, ◌&&◌, ◌||◌, not, nat_lt, Bool, true, false, List, [], ◌∷◌, ◌++◌, length, Option, Some, None, codes, decimal, if◌then◌else◌}
use Rattle.std.specs.List.{flat_map, list_any}
use Rattle.tl_types.specs.Bodies.{downward_bytes, downward_kind, upward_kind}
use Rattle.tl_types.specs.Message.{is_probe_ack, upward_bytes}
use Rattle.tl_types.specs.Text.{grow_text, probe_cap_text}
use Rattle.tl_types.specs.declared.message.Downward.{Downward}
use Rattle.tl_types.specs.declared.message.Upward.{Upward}
use Rattle.tl_types.specs.declared.permission.Grow.{Grow}
use Rattle.tl_types.specs.declared.permission.GrantCap.{GrantCap}
use Rattle.tl_types.specs.declared.permission.GrantCap.TheVariants.{ToT, ToB}
use Rattle.tl_types.specs.declared.permission.Perm.{Perm}
use Rattle.tl_types.specs.declared.permission.Perm.TheVariants.{None as NoAccess, Branch, Tip}
use Rattle.tl_types.specs.declared.permission.ProbeCap.{ProbeCap}
use Rattle.tl_types.specs.declared.wait.Awaited.{Awaited}
use Rattle.tl_types.specs.declared.wait.Awaited.TheVariants.{Nothing, ForGrant, ForReleaseAck}
use Rattle.tl_script_words.specs.Hex.{hex_text}
use Rattle.tl_protocol.specs.Ledger.{count_clients, has_copy, is_recorded}
use Rattle.tl_protocol.specs.Protocol.{Block, granted}
use Rattle.tl_protocol.specs.declared.client.Client.{Client}
use Rattle.tl_protocol.specs.declared.copy.CachedCopy.{CachedCopy}
use Rattle.tl_protocol.specs.declared.copy.CachedCopy.TheVariants.{Absent, Readable, Writable}
use Rattle.tl_protocol.specs.declared.home.Accepted.{Accepted}
use Rattle.tl_protocol.specs.declared.home.Line.{Line}
use Rattle.tl_protocol.specs.declared.home.Outward.{Outward}
use Rattle.tl_protocol.specs.declared.home.Outward.TheVariants.{Quiet, Get, Data, Put, PutAck}
use Rattle.tl_protocol.specs.declared.shape.Shape.{Shape}
use Rattle.tl_rules.specs.Plain.{state_of_plain}
use Rattle.tl_rules.specs.PlainState.{PlainState}
use Rattle.tlcheck_record.specs.Written.{message_text}

-- ## A client

-- a permission
abbrev pub perm_text : Perm → List ℕ
perm_text NoAccess = codes "None"
perm_text Branch = codes "Branch"
perm_text Tip = codes "Tip"

-- a client's copy: its permission, whether it is dirty, its bytes
abbrev pub copy_text : CachedCopy → List ℕ
copy_text Absent = codes "None"
copy_text (Readable bytes) = codes "Branch " ++ hex_text bytes
copy_text (Writable bytes false) = codes "Tip " ++ hex_text bytes
copy_text (Writable bytes true) = codes "Tip dirty " ++ hex_text bytes

-- what a client waits for
abbrev pub wait_text : Awaited → List ℕ
wait_text Nothing = []
wait_text ForGrant = codes ", waits for a Grant"
wait_text ForReleaseAck = codes ", waits for a ReleaseAck"

-- a message on A
abbrev pub on_a : Grow → List ℕ
on_a grow = codes ", on A AcquireBlock " ++ grow_text grow

-- a message on B
abbrev pub on_b : ProbeCap → List ℕ
on_b cap = codes ", on B ProbeBlock " ++ probe_cap_text cap

-- a message on C
abbrev pub on_c : Upward → List ℕ
on_c message = codes ", on C " ++ message_text (upward_kind message) (upward_bytes message)

-- a message on D
abbrev pub on_d : Downward → List ℕ
on_d message = codes ", on D " ++ message_text (downward_kind message) (downward_bytes message)

-- the messages on E, where there are some
abbrev pub on_e : ℕ → List ℕ
on_e n = if n == 0 then [] else codes ", on E GrantAck"

-- whether home has still to probe the client
abbrev pub probe_text : Bool → List ℕ
probe_text false = []
probe_text true = codes ", to be probed"

-- a client's copy, its record, and what it waits for
abbrev pub standing_text : Client → List ℕ
standing_text k = copy_text k.held ++ codes ", recorded " ++ perm_text k.recorded ++ wait_text k.wait

-- the messages on A and B, the oldest of a channel first
abbrev pub on_ab : Client → List ℕ
on_ab k = flat_map on_a k.a ++ flat_map on_b k.b

-- the messages on C, D and E
abbrev pub on_cde : Client → List ℕ
on_cde k = flat_map on_c k.c ++ flat_map on_d k.d ++ on_e k.e

-- a client's line
abbrev pub client_line : ℕ → Client → Bool → List ℕ
client_line c k probed =
    codes "client " ++ decimal c ++ codes ": " ++ standing_text k ++ on_ab k ++ on_cde k ++ probe_text probed ++ codes "\n"

-- ## Who must still be probed

-- a record that a Grant is not permitted beside: any above None for toT, Tip for toB
abbrev pub is_in_the_way : GrantCap → Perm → Bool
is_in_the_way ToT NoAccess = false
is_in_the_way ToT Branch = true
is_in_the_way ToT Tip = true
is_in_the_way ToB NoAccess = false
is_in_the_way ToB Branch = false
is_in_the_way ToB Tip = true

-- a Probe is on its way to the client, or an answer from it
abbrev pub is_probed : Client → Bool
is_probed k = not (length k.b == 0) || list_any is_probe_ack k.c

-- the client's record is in the way of the Grant that home is to send to another, and it is not probed
abbrev pub must_be_probed : Shape → Block → ℕ → Option Accepted → Bool
must_be_probed shape s c None = false
must_be_probed shape s c (Some acquire) =
    not (acquire.client == c) && is_in_the_way (granted shape s acquire) (s.client c).recorded && not (is_probed (s.client c))

-- ## What is at rest

-- a client waits for nothing
abbrev pub waits_for_nothing : Awaited → Bool
waits_for_nothing Nothing = true
waits_for_nothing ForGrant = false
waits_for_nothing ForReleaseAck = false

-- a client waits for nothing, and there is no message to it or from it
abbrev pub is_still : Client → Bool
is_still k =
    waits_for_nothing k.wait && (length k.a == 0) && (length k.b == 0) && (length k.c == 0) && (length k.d == 0) && (k.e == 0)

-- and it has no copy, and home records none
abbrev pub is_at_rest : Client → Bool
is_at_rest k = not (has_copy k) && not (is_recorded k) && is_still k

-- whether each of the first n clients is so
abbrev pub all_clients : (Client → Bool) → ℕ → (ℕ → Client) → Bool
all_clients test zero client = true
all_clients test (suc n) client = test (client n) && all_clients test n client

-- nothing passes between home and the memory
abbrev pub is_silent : Outward → Bool
is_silent Quiet = true
is_silent Get = false
is_silent (Data bytes) = false
is_silent (Put bytes) = false
is_silent PutAck = false

-- home serves no Acquire
abbrev pub serves_nobody : Option Accepted → Bool
serves_nobody None = true
serves_nobody (Some acquire) = false

-- home has no copy
abbrev pub is_away : Option Line → Bool
is_away None = true
is_away (Some line) = false

-- nothing is under way on a block
abbrev pub is_quiet : Shape → Block → Bool
is_quiet shape s = serves_nobody s.accepted && is_silent s.outward && all_clients is_still shape.clients s.client

-- a block is as at reset, but for the memory's bytes
abbrev pub is_reset : Shape → Block → Bool
is_reset shape s =
    is_away s.home && serves_nobody s.accepted && is_silent s.outward && all_clients is_at_rest shape.clients s.client

-- ## A block

-- a client's line, unless it is at rest
abbrev pub client_text : Shape → Block → ℕ → List ℕ
client_text shape s c =
    if is_at_rest (s.client c) then [] else client_line c (s.client c) (must_be_probed shape s c s.accepted)

-- the lines of the first n clients
abbrev pub client_lines : Shape → Block → ℕ → List ℕ
client_lines shape s zero = []
client_lines shape s (suc n) = client_lines shape s n ++ client_text shape s n

-- how many clients have a copy, of how many home records one, and whether anything is under way
abbrev pub head_line : ℕ → ℕ → ℕ → Bool → List ℕ
head_line block held recorded true =
    codes "block " ++ decimal block ++ codes ": " ++ decimal held ++ codes " held, " ++ decimal recorded ++ codes " recorded, quiet\n"
head_line block held recorded false =
    codes "block " ++ decimal block ++ codes ": " ++ decimal held ++ codes " held, " ++ decimal recorded ++ codes " recorded, not quiet\n"

-- home's copy
abbrev pub home_copy_text : Option Line → List ℕ
home_copy_text None = codes "no copy"
home_copy_text (Some line) = (if line.dirty then codes "dirty " else codes "clean ") ++ hex_text line.bytes

-- the Acquire that home serves
abbrev pub served_text : Option Accepted → List ℕ
served_text None = []
served_text (Some acquire) = codes ", serves client " ++ decimal acquire.client ++ codes " " ++ grow_text acquire.grow

-- what passes between home and the memory
abbrev pub outward_text : Outward → List ℕ
outward_text Quiet = []
outward_text Get = codes ", to the memory Get"
outward_text (Data bytes) = codes ", from the memory AccessAckData " ++ hex_text bytes
outward_text (Put bytes) = codes ", to the memory PutFullData " ++ hex_text bytes
outward_text PutAck = codes ", from the memory AccessAck"

-- home's line
abbrev pub home_line : Option Line → Option Accepted → Outward → List ℕ
home_line home accepted outward =
    codes "home: " ++ home_copy_text home ++ served_text accepted ++ outward_text outward ++ codes "\n"

-- the memory's line
abbrev pub memory_line : List ℕ → List ℕ
memory_line bytes = codes "memory: " ++ hex_text bytes ++ codes "\n"

-- the lines of a block
abbrev pub block_lines : Shape → ℕ → Block → List ℕ
block_lines shape block s =
    head_line block (count_clients has_copy shape.clients s.client) (count_clients is_recorded shape.clients s.client) (is_quiet shape s)
    ++ home_line s.home s.accepted s.outward ++ memory_line s.memory ++ client_lines shape s shape.clients

-- ## The map

-- the state of a block; none where the memory has no such block
abbrev pub state_lines : PlainState → ℕ → List ℕ
state_lines p block =
    if nat_lt block p.shape.blocks then block_lines p.shape block (state_of_plain p block) else []

-- the lines of a block, unless it is as at reset
abbrev pub left_lines : PlainState → ℕ → List ℕ
left_lines p block =
    if is_reset p.shape (state_of_plain p block) then [] else block_lines p.shape block (state_of_plain p block)

-- the lines of the first n blocks
abbrev pub ended : PlainState → ℕ → List ℕ
ended p zero = []
ended p (suc n) = ended p n ++ left_lines p n

-- the end of a record: the lines of each block that is not as at reset
abbrev pub end_lines : PlainState → List ℕ
end_lines p = ended p p.shape.blocks
