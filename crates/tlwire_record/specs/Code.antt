-- The kind of a message, by its codes; what is said by its kind.
use Rattle.std.specs.Prelude.{ℕ, ◌==◌, ◌&&◌, ◌||◌, nat_le, nat_lt, Bool, true, false, not, Option, Some, None, Result, Ok, Err, if◌then◌else◌}
use Rattle.tl_types.specs.Decoding.{kind_at}
use Rattle.tl_types.specs.declared.channel.Channel.{Channel}
use Rattle.tl_types.specs.declared.channel.Channel.TheVariants.{A, B, C, D, E}
use Rattle.tl_types.specs.declared.kind.Kind.{Kind}
use Rattle.tl_types.specs.declared.kind.Kind.TheVariants.{PutFullData, Get, AcquireBlock, ProbeBlock, ProbeAck, ProbeAckData, Release, ReleaseData, AccessAck, AccessAckData, Grant, GrantData, ReleaseAck, GrantAck}
use Rattle.tlwire_record.specs.declared.code.Role.{Role}
use Rattle.tlwire_record.specs.declared.code.Role.TheVariants as role
use Rattle.tlcheck_record.specs.declared.cause.Cause.{Cause}
use Rattle.tlcheck_record.specs.declared.cause.Cause.TheVariants as cause
use Rattle.tlcheck_record.specs.declared.message_name.MessageName.{MessageName}
use Rattle.tlcheck_record.specs.declared.message_name.MessageName.TheVariants as its
use Rattle.tlwire_record.specs.declared.line.Link.{Link}
use Rattle.tlwire_record.specs.declared.line.Link.TheVariants.{Client, Memory}

-- ## All messages of TileLink (1.8, section 6, the table of opcodes; section 9 for permissions)

-- a name, where a test is met
abbrev pub name_if : Bool → MessageName → Option MessageName
name_if true name = Some name
name_if false name = None

-- on A and B: puts, a get, arithmetic and logical operations, intents; an Acquire or a Probe of a block or of
-- permissions
abbrev pub name_both_ways : MessageName → MessageName → ℕ → ℕ → Option MessageName
name_both_ways block perm opcode param =
    if opcode == 0 then name_if (param == 0) its.PutFullData
    else if opcode == 1 then name_if (param == 0) its.PutPartialData
    else if opcode == 2 then name_if (nat_le param 4) its.ArithmeticData
    else if opcode == 3 then name_if (nat_le param 3) its.LogicalData
    else if opcode == 4 then name_if (param == 0) its.Get
    else if opcode == 5 then name_if (nat_le param 1) its.Intent
    else if opcode == 6 then name_if (nat_le param 2) block
    else if opcode == 7 then name_if (nat_le param 2) perm
    else None

-- on C: answers to what came on B; ProbeAck, ProbeAckData, Release and ReleaseData with six parameters
abbrev pub name_from_client : ℕ → ℕ → Option MessageName
name_from_client opcode param =
    if opcode == 0 then name_if (param == 0) its.AccessAck
    else if opcode == 1 then name_if (param == 0) its.AccessAckData
    else if opcode == 2 then name_if (param == 0) its.HintAck
    else if opcode == 4 then name_if (nat_le param 5) its.ProbeAck
    else if opcode == 5 then name_if (nat_le param 5) its.ProbeAckData
    else if opcode == 6 then name_if (nat_le param 5) its.Release
    else if opcode == 7 then name_if (nat_le param 5) its.ReleaseData
    else None

-- on D: answers to what came on A; Grant and GrantData with three parameters; ReleaseAck
abbrev pub name_from_home : ℕ → ℕ → Option MessageName
name_from_home opcode param =
    if opcode == 0 then name_if (param == 0) its.AccessAck
    else if opcode == 1 then name_if (param == 0) its.AccessAckData
    else if opcode == 2 then name_if (param == 0) its.HintAck
    else if opcode == 4 then name_if (nat_le param 2) its.Grant
    else if opcode == 5 then name_if (nat_le param 2) its.GrantData
    else if opcode == 6 then name_if (param == 0) its.ReleaseAck
    else None

-- the name of the message of TileLink with these codes
abbrev pub name_at : Channel → ℕ → ℕ → Option MessageName
name_at A opcode param = name_both_ways its.AcquireBlock its.AcquirePerm opcode param
name_at B opcode param = name_both_ways its.ProbeBlock its.ProbePerm opcode param
name_at C opcode param = name_from_client opcode param
name_at D opcode param = name_from_home opcode param
name_at E opcode param = name_if ((opcode == 0) && (param == 0)) its.GrantAck

-- ## Those of this project

-- the name of a kind
abbrev pub name_of : Kind → MessageName
name_of PutFullData = its.PutFullData
name_of Get = its.Get
name_of (AcquireBlock grow) = its.AcquireBlock
name_of (ProbeBlock cap) = its.ProbeBlock
name_of (ProbeAck report) = its.ProbeAck
name_of (ProbeAckData prune) = its.ProbeAckData
name_of (Release prune) = its.Release
name_of (ReleaseData prune) = its.ReleaseData
name_of AccessAck = its.AccessAck
name_of AccessAckData = its.AccessAckData
name_of (Grant cap) = its.Grant
name_of (GrantData cap) = its.GrantData
name_of ReleaseAck = its.ReleaseAck
name_of GrantAck = its.GrantAck

-- the kind, or why there is none
abbrev pub kind_or : Option Kind → Option MessageName → ℕ → Result Kind Cause
kind_or (Some kind) name param = Ok kind
kind_or None (Some name) param = Err (cause.Profile name param)
kind_or None None param = Err cause.Code

-- the kind that a channel, an opcode and a parameter stand for
unfoldable pub kind_of : Channel → ℕ → ℕ → Result Kind Cause
kind_of channel opcode param =
    if nat_lt 7 opcode || nat_lt 7 param then Err cause.Code
    else kind_or (kind_at channel opcode param) (name_at channel opcode param) param

-- the memory's link
abbrev pub is_memory : Link → Bool
is_memory (Client c) = false
is_memory Memory = true

-- a Get, a PutFullData and their answers travel on the memory's link, all others on a client's
abbrev pub is_on_link : Kind → Link → Bool
is_on_link Get link = is_memory link
is_on_link PutFullData link = is_memory link
is_on_link AccessAck link = is_memory link
is_on_link AccessAckData link = is_memory link
is_on_link _ link = not (is_memory link)

-- what a message does to what is open on its link
abbrev pub role_of : Kind → Role
role_of PutFullData = role.Request
role_of Get = role.Request
role_of (AcquireBlock grow) = role.Request
role_of (ProbeBlock cap) = role.Alone
role_of (ProbeAck report) = role.Alone
role_of (ProbeAckData prune) = role.Alone
role_of (Release prune) = role.Release
role_of (ReleaseData prune) = role.Release
role_of AccessAck = role.Answer
role_of AccessAckData = role.Answer
role_of (Grant cap) = role.Grant
role_of (GrantData cap) = role.Grant
role_of ReleaseAck = role.ReleaseAnswer
role_of GrantAck = role.End
