-- Lines that are left out: of the agents and at the addresses that the header names (this project's own format).
use Rattle.std.specs.Prelude.{ℕ, ◌*◌, ◌+◌, ◌++◌, ◌^◌, ◌==◌, ◌&&◌, ◌||◌, nat_le, nat_lt, not, Bool, true, false, List, [], ◌∷◌, length, codes, bytes_eq, Option, Some, None, Result, Ok, Err, if◌then◌else◌}
use Rattle.std.specs.BTreeMap.{is_at}
use Rattle.std.specs.BTreeSet.{insert_key}
use Rattle.std.specs.Set.{remove_key}
use Rattle.std.specs.List.{list_any}
use Rattle.tl_types.specs.declared.channel.Channel.{Channel}
use Rattle.tl_types.specs.declared.channel.Channel.TheVariants.{A, B, C, D, E}
use Rattle.tl_protocol.specs.declared.shape.Shape.{Shape}
use Rattle.tlcheck_record.specs.Cause.{◌>>=◌}
use Rattle.tlcheck_record.specs.Words.{number_in}
use Rattle.tlcheck_record.specs.declared.cause.Cause.{Cause}
use Rattle.tlcheck_record.specs.declared.cause.Cause.TheVariants as cause
use Rattle.tlwire_record.specs.Address.{wide_address_in}
use Rattle.tlwire_record.specs.Header.{SettingState, has_source, with_ignored}
use Rattle.tlwire_record.specs.Tables.{by_id, id_on}
use Rattle.tlwire_record.specs.declared.fields.Fields.{Fields}
use Rattle.tlwire_record.specs.declared.header.Sources.{Sources}
use Rattle.tlwire_record.specs.declared.ignored.Ignored.{Ignored}
use Rattle.tlwire_record.specs.declared.ignored.Ignored.TheVariants as its
use Rattle.tlwire_record.specs.declared.left.TheConstants.{SIZES}
use Rattle.tlwire_record.specs.declared.line.Link.{Link}
use Rattle.tlwire_record.specs.declared.line.Link.TheVariants.{Client, Memory}
use Rattle.tlwire_record.specs.declared.line.Said.{Said}
use Rattle.tlwire_record.specs.declared.line.Said.TheVariants as said
use Rattle.tlwire_record.specs.declared.tables.Id.{Id}

-- ## What the header says

-- the words around two numbers
abbrev pub is_range : List ℕ → List ℕ → Bool
is_range from to = bytes_eq from (codes "from") && bytes_eq to (codes "to")

-- sources of a client that is there, from one to another
abbrev pub ignored_sources : Shape → Sources → Result Ignored Cause
ignored_sources shape s =
    if not (nat_lt s.client shape.clients) then Err cause.Client
    else if nat_le s.from s.to then Ok (its.Sources s)
    else Err cause.Premise

-- `from NUM to NUM`
unfoldable pub numbers_between : List (List ℕ) → Result (ℕ × ℕ) Cause
numbers_between (from ∷ first ∷ to ∷ last ∷ []) =
    if is_range from to then number_in first >>= (λ a. number_in last >>= (λ b. Ok (a, b))) else Err cause.Premise
numbers_between _ = Err cause.Premise

-- `NUM from NUM to NUM`, behind `client`
unfoldable pub sources_ignored_in : Shape → List (List ℕ) → Result Ignored Cause
sources_ignored_in shape [] = Err cause.Premise
sources_ignored_in shape (client ∷ rest) =
    number_in client
    >>= (λ c. numbers_between rest >>= (λ n. ignored_sources shape (record { client = c; from = n.0; to = n.1 })))

-- addresses from one to another
abbrev pub ignored_addresses : ℕ → ℕ → Result Ignored Cause
ignored_addresses from to = if nat_le from to then Ok (its.Addresses from to) else Err cause.Premise

-- `from ADDR to ADDR`, behind `addresses`
unfoldable pub addresses_ignored_in : List (List ℕ) → Result Ignored Cause
addresses_ignored_in (from ∷ first ∷ to ∷ last ∷ []) =
    if is_range from to then
    wide_address_in first >>= (λ a. wide_address_in last >>= (λ b. ignored_addresses a b))
    else Err cause.Premise
addresses_ignored_in _ = Err cause.Premise

-- `client NUM from NUM to NUM` or `addresses from ADDR to ADDR`, behind `ignored`
unfoldable pub ignored_in : Shape → List (List ℕ) → Result Ignored Cause
ignored_in shape [] = Err cause.Premise
ignored_in shape (word ∷ rest) =
    if bytes_eq word (codes "client") then sources_ignored_in shape rest
    else if bytes_eq word (codes "addresses") then addresses_ignored_in rest
    else Err cause.Premise

-- the setting with what a line names
abbrev pub ignored_taken : SettingState → List (List ℕ) → Result SettingState Cause
ignored_taken setting rest =
    ignored_in setting.shape rest >>= (λ i. Ok (with_ignored setting i))

-- ## Which lines are left out

-- a source of a client's is named
abbrev pub names_source : ℕ → ℕ → Ignored → Bool
names_source client source (its.Sources s) = has_source client source s
names_source client source (its.Addresses from to) = false

-- an address is named
abbrev pub names_address : ℕ → Ignored → Bool
names_address address (its.Sources s) = false
names_address address (its.Addresses from to) = nat_le from address && nat_le address to

-- an address lies behind the memory's last byte
abbrev pub is_behind : SettingState → ℕ → Bool
is_behind setting address = nat_le (setting.base + setting.shape.block_bytes * setting.shape.blocks) address

-- so many bytes from an address on end before the memory's first byte
abbrev pub ends_before : SettingState → ℕ → ℕ → Bool
ends_before setting address bytes = nat_le (address + bytes) setting.base

-- so many bytes from an address on are none of the memory's
abbrev pub is_apart : SettingState → ℕ → ℕ → Bool
is_apart setting address bytes = is_behind setting address || ends_before setting address bytes

-- a message of this size from an address on ends before it: it has 2 to its size bytes, and a block's where no size stands (TileLink 1.8,
-- section 4)
abbrev pub message_ends_before : SettingState → ℕ → Option ℕ → Bool
message_ends_before setting address None = ends_before setting address setting.shape.block_bytes
message_ends_before setting address (Some size) = nat_lt size SIZES && ends_before setting address (2 ^ size)

-- a message with an address is of none of the memory's bytes
abbrev pub is_elsewhere : SettingState → Option ℕ → Option ℕ → Bool
is_elsewhere setting None size = false
is_elsewhere setting (Some address) size = is_behind setting address || message_ends_before setting address size

-- a Get or an Intent, which writes nothing (TileLink 1.8, section 7)
abbrev pub writes_nothing : Channel → ℕ → Bool
writes_nothing A opcode = (opcode == 4) || (opcode == 5)
writes_nothing B opcode = false
writes_nothing C opcode = false
writes_nothing D opcode = false
writes_nothing E opcode = false

-- a message of an agent that is named: it is of none of the memory's bytes, or writes nothing
abbrev pub is_of_agent : SettingState → Link → Channel → ℕ → Fields → Option ℕ → Bool
is_of_agent setting (Client c) channel opcode f (Some source) =
    list_any (names_source c source) setting.ignored
    && (writes_nothing channel opcode || is_elsewhere setting f.address f.size)
is_of_agent setting link channel opcode f source = false

-- an address is named
abbrev pub is_named : SettingState → Option ℕ → Bool
is_named setting None = false
is_named setting (Some address) = list_any (names_address address) setting.ignored

-- a message at an address that is named is of none of the memory's bytes
abbrev pub is_at_named : SettingState → Fields → Bool
is_at_named setting f = is_named setting f.address && is_elsewhere setting f.address f.size

-- a message on A, B or C is left out
abbrev pub is_ignored : SettingState → Link → Channel → ℕ → Fields → Bool
is_ignored setting link channel opcode f =
    is_of_agent setting link channel opcode f f.source || is_at_named setting f

-- an access is left out: it is at an address that is named, and of none of the memory's bytes
abbrev pub is_access_ignored : SettingState → ℕ → List ℕ → Bool
is_access_ignored setting address bytes =
    list_any (names_address address) setting.ignored && is_apart setting address (length bytes)

-- ## Their answers

-- The exchanges that are left out and open, by their sources and sinks, in the order of these.
pub record LeftState : Type 0 where
  pub requests : List Id
  pub releases : List Id
  pub grants : List Id

-- none is
abbrev pub none_left : LeftState
none_left = record { requests = []; releases = []; grants = [] }

-- an id is among these
abbrev pub has_id : Id → List Id → Bool
has_id id ids = list_any (is_at (by_id id)) ids

-- these and one more
abbrev pub with_id : Link → Option ℕ → List Id → List Id
with_id link None ids = ids
with_id link (Some number) ids = insert_key by_id ids (id_on link number)

-- these without one
abbrev pub without_id : Id → List Id → List Id
without_id id ids = remove_key (is_at (by_id id)) ids

-- a Release or a ReleaseData (TileLink 1.8, section 6)
abbrev pub is_release : ℕ → Bool
is_release opcode = (opcode == 6) || (opcode == 7)

-- a Grant or a GrantData (TileLink 1.8, section 6)
abbrev pub is_grant : ℕ → Bool
is_grant opcode = (opcode == 4) || (opcode == 5)

-- what is open behind a message on A, B or C that is left out: an Acquire, a Get and the like, or a Release, is
abbrev pub after_ignored : LeftState → Link → Channel → ℕ → Option ℕ → LeftState
after_ignored t link A opcode source = record t { requests = with_id link source t.requests }
after_ignored t link B opcode source = t
after_ignored t link C opcode source =
    if is_release opcode then record t { releases = with_id link source t.releases } else t
after_ignored t link D opcode source = t
after_ignored t link E opcode source = t

-- what is open behind the answer to a request: it is no more, and a Grant is
abbrev pub after_answer : LeftState → Link → Id → ℕ → Option ℕ → LeftState
after_answer t link id opcode sink =
    record t {
      requests = without_id id t.requests;
      grants = if is_grant opcode then with_id link sink t.grants else t.grants;
    }

-- what is open behind a message on D that answers what was left out; a ReleaseAck answers a Release
abbrev pub answer_left : LeftState → Link → ℕ → Option ℕ → Option ℕ → Option LeftState
answer_left t link opcode None sink = None
answer_left t link opcode (Some source) sink =
    if opcode == 6 then
    if has_id (id_on link source) t.releases then Some (record t { releases = without_id (id_on link source) t.releases })
    else None
    else if has_id (id_on link source) t.requests then Some (after_answer t link (id_on link source) opcode sink)
    else None

-- what is open behind a GrantAck of a Grant that was left out
abbrev pub end_left : LeftState → Link → Option ℕ → Option LeftState
end_left t link None = None
end_left t link (Some sink) =
    if has_id (id_on link sink) t.grants then Some (record t { grants = without_id (id_on link sink) t.grants })
    else None

-- ## A line

-- what is open behind a message, where it is left out: by what the header names on A, B and C, and as an answer on D and E
abbrev pub message_left : SettingState → LeftState → Link → Channel → ℕ → Fields → Option LeftState
message_left setting t link D opcode f = answer_left t link opcode f.source f.sink
message_left setting t link E opcode f = end_left t link f.sink
message_left setting t link channel opcode f =
    if is_ignored setting link channel opcode f then Some (after_ignored t link channel opcode f.source) else None

-- what is open behind a line, where it is left out
abbrev pub said_left : SettingState → LeftState → Link → Said → Option LeftState
said_left setting t link (said.Load address bytes) = if is_access_ignored setting address bytes then Some t else None
said_left setting t link (said.Store address bytes) = if is_access_ignored setting address bytes then Some t else None
said_left setting t link (said.Message channel opcode f) = message_left setting t link channel opcode f

-- whether it is left out, and what is open then
abbrev pub or_same : LeftState → Option LeftState → Bool × LeftState
or_same t None = (false, t)
or_same t (Some after) = (true, after)
