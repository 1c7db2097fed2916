-- The words in which the page's data tells what a bank's views answer (this project's own format).
use Rattle.std.specs.Prelude.{ℕ, zero, suc, Bool, true, false, List, [], ◌∷◌, ◌++◌, Option, Some, None, codes, decimal, slice_index_or, if◌then◌else◌}
use Rattle.tl_types.specs.Bodies.{body_kind, body_bytes}
use Rattle.tl_types.specs.Text.{grow_text, kind_text, probe_cap_text}
use Rattle.tl_types.specs.declared.kind.Kind.{Kind}
use Rattle.tl_types.specs.declared.message.Message.{Message}
use Rattle.tl_types.specs.declared.ticket.Ticket.{Ticket}
use Rattle.tl_types.specs.declared.wait.Awaited.{Awaited}
use Rattle.tl_types.specs.declared.wait.Awaited.TheVariants.{Nothing, ForGrant, ForReleaseAck}
use Rattle.tl_script_words.specs.Hex.{hex_text}
use Rattle.tl_protocol.specs.declared.copy.CachedCopy.{CachedCopy}
use Rattle.tl_protocol.specs.declared.copy.CachedCopy.TheVariants.{Absent, Readable, Writable}
use Rattle.tl_protocol.specs.declared.home.Line.{Line}
use Rattle.tl_protocol.specs.declared.home.Outward.{Outward}
use Rattle.tl_protocol.specs.declared.home.Outward.TheVariants.{Quiet, Get, Data, Put, PutAck}
use Rattle.tl_registers.specs.declared.due.Due.{Due}
use Rattle.tl_registers.specs.declared.due.Due.TheVariants as due
use Rattle.tl_registers.specs.declared.register.Task.{Task}
use Rattle.tl_registers.specs.declared.register.Task.TheVariants as task

-- ## Copies

-- the letter before the bytes of a copy at Tip, clean or dirty
abbrev pub tip_letter : Bool → List ℕ
tip_letter false = codes "T"
tip_letter true = codes "D"

-- a client's copy: N; B, T or, dirty, D, and the bytes
abbrev pub copy_text : Option CachedCopy → List ℕ
copy_text None = []
copy_text (Some Absent) = codes "N"
copy_text (Some (Readable bytes)) = codes "B" ++ hex_text bytes
copy_text (Some (Writable bytes dirty)) = tip_letter dirty ++ hex_text bytes

-- the answer that a client waits for: none, a Grant, a ReleaseAck
abbrev pub wait_text : Option Awaited → List ℕ
wait_text None = []
wait_text (Some Nothing) = codes "-"
wait_text (Some ForGrant) = codes "G"
wait_text (Some ForReleaseAck) = codes "R"

-- the letter before the bytes of home's copy, clean or dirty
abbrev pub line_letter : Bool → List ℕ
line_letter false = codes "C"
line_letter true = codes "D"

-- home's copy: none, or C or D and the bytes
abbrev pub line_text : Option Line → List ℕ
line_text None = codes "-"
line_text (Some line) = line_letter line.dirty ++ hex_text line.bytes

-- what passes between home and the memory: nothing, a Get, its answer, a Put, its acknowledgement
abbrev pub outward_text : Option Outward → List ℕ
outward_text None = codes "-"
outward_text (Some Quiet) = codes "-"
outward_text (Some Get) = codes "G"
outward_text (Some (Data bytes)) = codes "A" ++ hex_text bytes
outward_text (Some (Put bytes)) = codes "P" ++ hex_text bytes
outward_text (Some PutAck) = codes "K"

-- bytes, where there are some
abbrev pub bytes_text : Option (List ℕ) → List ℕ
bytes_text None = []
bytes_text (Some bytes) = hex_text bytes

-- ## Messages

-- what a message is about and what it is, with its bytes
abbrev pub words_text : ℕ → Kind → Option (List ℕ) → List ℕ
words_text block kind bytes = decimal block ++ codes "," ++ kind_text kind ++ codes "," ++ bytes_text bytes ++ codes ";"

-- a message that waits: its serial, its block, what it is, its bytes
abbrev pub waiting_text : Ticket × Message → List ℕ
waiting_text x = decimal x.0.serial ++ codes "," ++ words_text x.1.block (body_kind x.1.body) (body_bytes x.1.body)

-- the same, where there is one
abbrev pub message_text : Option (Ticket × Message) → List ℕ
message_text None = []
message_text (Some x) = waiting_text x

-- ## Registers

-- what a register is open for: the client and its grow, and the victim where there is one; or an eviction
abbrev pub task_text : Task → List ℕ
task_text (task.Acquire acquire) = decimal acquire.client ++ codes "," ++ grow_text acquire.grow ++ codes ",-"
task_text (task.Replace acquire victim) = decimal acquire.client ++ codes "," ++ grow_text acquire.grow ++ codes "," ++ decimal victim
task_text task.Evict = codes "-,evict,-"

-- a client, where a set has it
abbrev pub member_text : Bool → ℕ → List ℕ
member_text false client = []
member_text true client = codes " " ++ decimal client

-- those of the first clients that a set has
abbrev pub members_below : List Bool → ℕ → List ℕ
members_below set zero = []
members_below set (suc n) = members_below set n ++ member_text (slice_index_or set n false) n

-- what a register does next
abbrev pub due_text : Option Due → List ℕ
due_text None = codes "-"
due_text (Some (due.Probe client block cap)) = codes "probe " ++ decimal client ++ codes " " ++ decimal block ++ codes " " ++ probe_cap_text cap
due_text (Some (due.Grant client)) = codes "grant " ++ decimal client
due_text (Some due.Get) = codes "get"
due_text (Some (due.Put block)) = codes "put " ++ decimal block
due_text (Some (due.Drop block)) = codes "drop " ++ decimal block

-- ## Ways

-- a way, with the block that lies in it where one does
abbrev pub slot_text : Option ℕ → List ℕ
slot_text None = codes "-,"
slot_text (Some block) = decimal block ++ codes ","
