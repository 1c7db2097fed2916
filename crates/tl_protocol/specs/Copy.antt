-- A client's copy of a block, and what becomes of it (TileLink 1.8, section 9).
use Rattle.std.specs.Prelude.{◌≢◌, ◌+◌, ◌≤◌, ℕ, true, false, List, [], length, Option, Some, None}
use Rattle.tl_types.specs.Bytes.{overwrite}
use Rattle.tl_types.specs.declared.permission.Perm.{Perm}
use Rattle.tl_types.specs.declared.permission.Perm.TheVariants.{None as p_None, Branch, Tip}
use Rattle.tl_protocol.specs.declared.copy.CachedCopy.{CachedCopy}
use Rattle.tl_protocol.specs.declared.copy.CachedCopy.TheVariants.{Absent, Readable, Writable}

-- what the client may do with it
abbrev pub perm_of : CachedCopy → Perm
perm_of Absent = p_None
perm_of (Readable bytes) = Branch
perm_of (Writable bytes dirty) = Tip

-- its bytes, none where it is absent
abbrev pub bytes_of : CachedCopy → List ℕ
bytes_of Absent = []
bytes_of (Readable bytes) = bytes
bytes_of (Writable bytes dirty) = bytes

-- the bytes of a copy that differs from home's, which are sent when the copy is reduced
abbrev pub dirty_bytes : CachedCopy → Option (List ℕ)
dirty_bytes Absent = None
dirty_bytes (Readable bytes) = None
dirty_bytes (Writable bytes true) = Some bytes
dirty_bytes (Writable bytes false) = None

-- a copy with a permission and bytes, clean
abbrev pub clean_copy : Perm → List ℕ → CachedCopy
clean_copy p_None bytes = Absent
clean_copy Branch bytes = Readable bytes
clean_copy Tip bytes = Writable bytes false

-- the copy reduced to at most a permission: the same where it is no more, else clean
abbrev pub reduced : CachedCopy → Perm → CachedCopy
reduced copy p_None = Absent
reduced Absent Branch = Absent
reduced (Readable bytes) Branch = Readable bytes
reduced (Writable bytes dirty) Branch = Readable bytes
reduced copy Tip = copy

-- a store writes its bytes over the copy's, which is dirty then
abbrev pub stored_in : ℕ → List ℕ → CachedCopy → CachedCopy
stored_in offset bytes copy = Writable (overwrite offset bytes (bytes_of copy)) true

-- a copy that may be read has so many bytes from an offset on, at most eight
abbrev pub CanRead : CachedCopy → ℕ → ℕ → Type 0
CanRead copy offset len = (perm_of copy ≢ p_None) × (offset + len ≤ length (bytes_of copy)) × (len ≤ 8)
