-- What was seen, with the client and the block that its ids stand for.
use Rattle.std.specs.Prelude.{ℕ, ◌++◌, nat_lt, not, Bool, true, false, List, [], ◌∷◌, unwrap_or, Option, Some, None, Result, Ok, Err, if◌then◌else◌}
use Rattle.tl_types.specs.declared.channel.Channel.{Channel}
use Rattle.tl_types.specs.declared.channel.Channel.TheVariants as channel
use Rattle.tl_types.specs.declared.kind.Kind.{Kind}
use Rattle.tlcheck_rules.specs.declared.entry.Shown.{Shown}
use Rattle.tlwire_search.specs.Premises.{is_unseen}
use Rattle.tlwire_search.specs.declared.premises.Premises.{Premises}
use Rattle.tlwire_search.specs.declared.seen.Seen.{Seen}
use Rattle.tlwire_search.specs.declared.seen.Wire.{Wire}
use Rattle.tlwire_search.specs.declared.seen.Wire.TheVariants as wire
use Rattle.tlwire_search.specs.declared.seen.Seen.TheVariants.{OnLink, OnMemory, Load as Loads, Store as Stores}
use Rattle.tlwire_record.specs.Code.{is_on_link, kind_of, name_of, role_of}
use Rattle.tlcheck_record.specs.Cause.{◌>>=◌}
use Rattle.tlwire_record.specs.Header.{SettingState, owns}
use Rattle.tlwire_record.specs.Left.{LeftState, none_left, said_left}
use Rattle.tlwire_record.specs.Place.{has_its_data, has_other_fields, is_set, is_size, offset_of}
use Rattle.tlwire_record.specs.Tables.{TableState, no_tables, taken}
use Rattle.tlcheck_record.specs.declared.cause.Cause.{Cause}
use Rattle.tlcheck_record.specs.declared.cause.Cause.TheVariants as cause
use Rattle.tlwire_record.specs.declared.fields.Fields.{Fields}
use Rattle.tlwire_record.specs.declared.line.Line.{Line}
use Rattle.tlwire_record.specs.declared.line.Link.{Link}
use Rattle.tlwire_record.specs.declared.line.Link.TheVariants.{Client, Memory}
use Rattle.tlwire_record.specs.declared.line.Said.{Said}
use Rattle.tlwire_record.specs.declared.line.Said.TheVariants as said

-- ## A message

-- a source that stands is one of the client's; the memory's link has sources of its own
abbrev pub has_own_source : SettingState → Link → Option ℕ → Bool
has_own_source setting Memory source = true
has_own_source setting (Client c) None = true
has_own_source setting (Client c) (Some source) = owns setting.sources c source

-- a message was spoilt: it is denied, its data is corrupt, or it is for some bytes of a block alone (TileLink 1.8,
-- section 3)
abbrev pub spoilt : Fields → Option Cause
spoilt f =
    if is_set f.denied then Some cause.Denied
    else if is_set f.corrupt then Some cause.Corrupt
    else if is_set f.mask then Some cause.Mask
    else None

-- the first of two causes
abbrev pub first_of : Option Cause → Option Cause → Option Cause
first_of (Some c) other = Some c
first_of None other = other

-- what is wrong with a message of a kind on a link, if anything: the first of these
abbrev pub wrong_in : SettingState → Link → Channel → Kind → Fields → Option Cause
wrong_in setting link channel kind f =
    if not (is_on_link kind link) then Some (cause.OffLink (name_of kind))
    else if has_other_fields channel f then Some cause.Extra
    else if not (is_size setting.shape f.size) then Some cause.Size
    else first_of (spoilt f) (
    if not (has_own_source setting link f.source) then Some cause.Source
    else if not (has_its_data setting.shape kind f.bytes) then Some cause.Data
    else None)

-- a message of a block, on a link
abbrev pub seen_on : Link → ℕ → Shown → Seen
seen_on (Client c) block shown = OnLink c block shown
seen_on Memory block shown = OnMemory block shown

-- a value, unless something is wrong
abbrev pub unless_wrong : {A : Type 0} → Option Cause → Result A Cause → Result A Cause
unless_wrong None value = value
unless_wrong (Some f) value = Err f

-- a message of a kind, and what is open after it
abbrev pub kind_taken : SettingState → TableState → Link → Kind → Fields → Result (Seen × TableState) Cause
kind_taken setting t link kind f =
    taken setting t (role_of kind) link f
    >>= (λ block. Ok (seen_on link block.0 (record { kind = kind; bytes = f.bytes }), block.1))

-- a message by its codes and fields; a parameter that does not stand is 0
unfoldable pub message_taken : SettingState → TableState → Link → Channel → ℕ → Fields → Result (Seen × TableState) Cause
message_taken setting t link channel opcode f =
    kind_of channel opcode (unwrap_or f.param 0)
    >>= (λ kind. unless_wrong (wrong_in setting link channel kind f) (kind_taken setting t link kind f))

-- ## A line

-- a link is the memory's, or that of a client that is there
abbrev pub is_there : ℕ → Link → Bool
is_there clients (Client c) = nat_lt c clients
is_there clients Memory = true

-- the wire of a line on the memory's link, or of a load or a store
abbrev pub unwatched_wire : Link → Said → Option Wire
unwatched_wire Memory said = Some (wire.Memory channel.A)
unwatched_wire (Client c) (said.Load address bytes) = Some (wire.Core c)
unwatched_wire (Client c) (said.Store address bytes) = Some (wire.Core c)
unwatched_wire (Client c) (said.Message channel opcode f) = None

-- the header says that nobody watched such a wire
abbrev pub is_unwatched : Premises → Option Wire → Bool
is_unwatched premises None = false
is_unwatched premises (Some w) = is_unseen premises w

-- the client whose link it is
abbrev pub owner_of : Link → Result ℕ Cause
owner_of (Client c) = Ok c
owner_of Memory = Err cause.Client

-- what is seen of what a line says, and what is open after it
unfoldable pub said_taken : SettingState → TableState → Link → Said → Result (Seen × TableState) Cause
said_taken setting t link (said.Load address bytes) =
    owner_of link >>= (λ c. offset_of setting.shape setting.base address bytes >>= (λ offset. Ok (Loads c offset bytes, t)))
said_taken setting t link (said.Store address bytes) =
    owner_of link >>= (λ c. offset_of setting.shape setting.base address bytes >>= (λ offset. Ok (Stores c offset bytes, t)))
said_taken setting t link (said.Message channel opcode f) = message_taken setting t link channel opcode f

-- What was seen, in the order of the lines, each with the number of its line and its cycle; the cycle of the last line, and what is open;
-- and the lines that are left out.
pub record MessagesState : Type 0 where
  pub setting : SettingState
  pub image : List ℕ
  pub cycle : ℕ
  pub tables : TableState
  pub left : LeftState
  pub seen : List Seen
  pub lines : List ℕ
  pub cycles : List ℕ
  pub left_lines : List ℕ

-- nothing was seen
abbrev pub began : SettingState → List ℕ → MessagesState
began setting image = record { setting = setting; image = image; cycle = 0; tables = no_tables; left = none_left; seen = []; lines = []; cycles = []; left_lines = [] }

-- the line with this number has what is seen of it, and nothing else changes but the cycle and what is open
abbrev pub line_seen : MessagesState → ℕ → Line → Result MessagesState Cause
line_seen m number line =
    if is_unwatched m.setting.premises (unwatched_wire line.link line.said) then Err cause.Unwatched
    else
    said_taken m.setting m.tables line.link line.said
    >>= (λ s. Ok (record m { cycle = line.cycle; tables = s.1; seen = m.seen ++ s.0 ∷ []; lines = m.lines ++ number ∷ []; cycles = m.cycles ++ line.cycle ∷ [] }))

-- the line with this number is left out
abbrev pub line_left : MessagesState → ℕ → ℕ → MessagesState
line_left m number cycle = record m { cycle = cycle; left_lines = m.left_lines ++ number ∷ [] }

-- the line with this number, where it is left out, or else is seen
abbrev pub line_of : MessagesState → ℕ → Line → Option LeftState → Result MessagesState Cause
line_of m number line None = line_seen m number line
line_of m number line (Some left) = Ok (line_left (record m { left = left }) number line.cycle)

-- the line with this number
abbrev pub line_taken : MessagesState → ℕ → Line → Result MessagesState Cause
line_taken m number line =
    if nat_lt line.cycle m.cycle then Err cause.Backwards
    else if not (is_there m.setting.shape.clients line.link) then Err cause.Client
    else line_of m number line (said_left m.setting m.left line.link line.said)

-- ## With another header

-- a record whose header says this of how it was seen
abbrev pub supposing : MessagesState → Premises → MessagesState
supposing m premises = record m { setting = record m.setting { premises = premises } }
