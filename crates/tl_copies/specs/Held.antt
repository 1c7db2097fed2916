-- A client's copy of a block.
use Rattle.std.specs.Prelude.{ℕ, Bool, true, false, not, ◌&&◌, List, [], Option, Some, None}
use Rattle.tl_types.specs.Bytes.{overwrite}
use Rattle.tl_types.specs.declared.permission.Perm.{Perm}
use Rattle.tl_types.specs.declared.permission.Perm.TheVariants as perm
use Rattle.tl_types.specs.declared.wait.Awaited.{Awaited}
use Rattle.tl_types.specs.declared.wait.Awaited.TheVariants.{Nothing, ForGrant, ForReleaseAck}
use Rattle.tl_copies.specs.declared.held.Held.{Held}

-- a permission to read, or to read and write
abbrev pub is_above_none : Perm → Bool
is_above_none perm.None = false
is_above_none perm.Branch = true
is_above_none perm.Tip = true

-- whether there is a copy
abbrev pub is_copy : Held → Bool
is_copy held = is_above_none held.perm

-- the same of an entry that may be absent
abbrev pub has_copy : Option Held → Bool
has_copy None = false
has_copy (Some held) = is_copy held

-- what is waited for is a Grant
abbrev pub waits_for_grant : Awaited → Bool
waits_for_grant Nothing = false
waits_for_grant ForGrant = true
waits_for_grant ForReleaseAck = false

-- the entry waited for a Grant, and no longer does
abbrev pub is_renewed : Held → Held → Bool
is_renewed old new = waits_for_grant old.wait && not (waits_for_grant new.wait)

-- the entry is new, or its Grant came
abbrev pub is_renewed_entry : Option Held → Held → Bool
is_renewed_entry None new = true
is_renewed_entry (Some old) new = is_renewed old new

-- an answer is waited for
abbrev pub waits : Awaited → Bool
waits Nothing = false
waits ForGrant = true
waits ForReleaseAck = true

-- whether the client waits for an answer by its entry; where there is no entry it does not
abbrev pub is_awaited : Option Held → Bool
is_awaited None = false
is_awaited (Some held) = waits held.wait

-- a store writes its bytes over the copy's from an offset on, which is dirty then
abbrev pub stored : ℕ → List ℕ → Held → Held
stored offset bytes held = record held { dirty = true; bytes = overwrite offset bytes held.bytes }

-- what a client holds that waits for an answer from then on: what it held, or no copy
abbrev pub waiting : Awaited → Option Held → Held
waiting wait None = record { perm = perm.None; dirty = false; bytes = []; wait = wait }
waiting wait (Some held) = record held { wait = wait }
