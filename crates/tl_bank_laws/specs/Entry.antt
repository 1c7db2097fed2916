-- What a client's table has of a block (this project's own). No public clause cites this module.
use Rattle.std.specs.Prelude.{◌≡◌, ℕ, ◌<◌, Bool, true, false, List, [], Option, Some, None, if◌then◌else◌}
use Rattle.tl_types.specs.declared.permission.Perm.{Perm}
use Rattle.tl_types.specs.declared.permission.Perm.TheVariants.{None as p_None, Branch, Tip}
use Rattle.tl_types.specs.declared.wait.Awaited.{Awaited}
use Rattle.tl_types.specs.declared.wait.Awaited.TheVariants.{Nothing}
use Rattle.tl_protocol.specs.Copy.{perm_of, bytes_of}
use Rattle.tl_protocol.specs.declared.client.Client.{Client}
use Rattle.tl_protocol.specs.declared.copy.CachedCopy.{CachedCopy}
use Rattle.tl_protocol.specs.declared.copy.CachedCopy.TheVariants.{Absent, Readable, Writable}
use Rattle.tl_copies.specs.Copies.{Tables, clients_of, entries, held_at}
use Rattle.tl_copies.specs.Held.{is_copy, waiting}
use Rattle.tl_copies.specs.declared.held.Held.{Held}
use Rattle.tl_bank_spec.specs.Tables.{has_entry_for}

-- whether a copy is dirty: only one that may be written can be
abbrev pub is_dirty : CachedCopy → Bool
is_dirty Absent = false
is_dirty (Readable bytes) = false
is_dirty (Writable bytes dirty) = dirty

-- a copy with the answer that its client waits for, as a table keeps them
abbrev pub held_as : CachedCopy → Awaited → Held
held_as copy wait = record { perm = perm_of copy; dirty = is_dirty copy; bytes = bytes_of copy; wait = wait }

-- the entry: there is one while there is a copy or the client waits
abbrev pub entry_with : CachedCopy → Awaited → Option Held
entry_with copy wait = if has_entry_for copy wait then Some (held_as copy wait) else None

-- the entry of a client's part of a block
abbrev pub entry_of : Client → Option Held
entry_of k = entry_with k.held k.wait

-- a client's table has a place for a copy of a block: it has an entry of it, or room for one more, or needs none
pub record HasPlace (tables : Tables) (c block : ℕ) (copy : CachedCopy) (wait : Awaited) : Type 0 where
  pub client : c < clients_of tables
  pub inside : block < tables.blocks
  pub room : has_entry_for copy wait ≡ true → held_at tables c block ≡ None → entries tables c < tables.limit

-- ## What an entry says

-- the copy with a permission, bytes and a dirty flag: none at None, and at Branch the flag is not read
abbrev pub copy_with : Perm → List ℕ → Bool → CachedCopy
copy_with p_None bytes dirty = Absent
copy_with Branch bytes dirty = Readable bytes
copy_with Tip bytes dirty = Writable bytes dirty

-- the copy that an entry says; none where there is no entry
abbrev pub copy_in : Option Held → CachedCopy
copy_in None = Absent
copy_in (Some held) = copy_with held.perm held.bytes held.dirty

-- the answer that the client waits for by its entry; nothing where there is no entry
abbrev pub wait_in : Option Held → Awaited
wait_in None = Nothing
wait_in (Some held) = held.wait

-- the permission that an entry says; None where there is no entry
abbrev pub perm_in : Option Held → Perm
perm_in None = p_None
perm_in (Some held) = held.perm

-- the bytes that an entry has; none where there is no entry
abbrev pub bytes_in : Option Held → List ℕ
bytes_in None = []
bytes_in (Some held) = held.bytes

-- the entry once its client waits for nothing: it goes where it says no copy
abbrev pub ended : Option Held → Option Held
ended None = None
ended (Some held) = if is_copy held then Some (waiting Nothing (Some held)) else None
