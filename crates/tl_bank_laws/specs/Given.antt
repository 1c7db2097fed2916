-- What a message of channel C tells home (this project's own).
use Rattle.std.specs.Prelude.{ℕ, List, Option, None}
use Rattle.tl_types.specs.Message.{upward_bytes, upward_to}
use Rattle.tl_types.specs.declared.message.Body.{Body}
use Rattle.tl_types.specs.declared.message.Body.TheVariants.{AcquireBlock, ProbeBlock, Upward as b_Upward, Downward as b_Downward, GrantAck}
use Rattle.tl_types.specs.declared.permission.Perm.{Perm}
use Rattle.tl_types.specs.declared.permission.Perm.TheVariants.{None as p_None}

-- the permission that it leaves the client; any other message is read as None
abbrev pub left_by : Body → Perm
left_by (AcquireBlock grow) = p_None
left_by (ProbeBlock cap) = p_None
left_by (b_Upward message) = upward_to message
left_by (b_Downward message) = p_None
left_by GrantAck = p_None

-- the bytes that it carries; any other message brings none
abbrev pub brought_by : Body → Option (List ℕ)
brought_by (AcquireBlock grow) = None
brought_by (ProbeBlock cap) = None
brought_by (b_Upward message) = upward_bytes message
brought_by (b_Downward message) = None
brought_by GrantAck = None
