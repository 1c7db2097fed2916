-- A client's table of copies as the log leaves it (this project's own).
use Rattle.std.specs.Prelude.{ℕ, Bool, true, false}
use Rattle.tl_types.specs.Count.{count_below}
use Rattle.tl_types.specs.declared.wait.Awaited.{Awaited}
use Rattle.tl_types.specs.declared.wait.Awaited.TheVariants.{Nothing, ForGrant, ForReleaseAck}
use Rattle.tl_protocol.specs.Ledger.{has_copy}
use Rattle.tl_protocol.specs.declared.client.Client.{Client}
use Rattle.tl_protocol.specs.declared.copy.CachedCopy.{CachedCopy}
use Rattle.tl_protocol.specs.declared.copy.CachedCopy.TheVariants.{Absent, Readable, Writable}
use Rattle.tl_bank_spec.specs.View.{View, client_at}

-- whether an answer is waited for
abbrev pub is_waiting : Awaited → Bool
is_waiting Nothing = false
is_waiting ForGrant = true
is_waiting ForReleaseAck = true

-- a client's table has an entry for a block while it has a copy of it or waits for an answer about it
abbrev pub has_entry_for : CachedCopy → Awaited → Bool
has_entry_for Absent wait = is_waiting wait
has_entry_for (Readable bytes) wait = true
has_entry_for (Writable bytes dirty) wait = true

-- the same of a client's part of a block
abbrev pub has_entry : Client → Bool
has_entry k = has_entry_for k.held k.wait

-- how many entries a client's table has
abbrev pub entries_at : View → ℕ → ℕ
entries_at v client = count_below (λ block. has_entry (client_at v client block)) v.geometry.memory_blocks

-- how many copies a client has
abbrev pub copies_at : View → ℕ → ℕ
copies_at v client = count_below (λ block. has_copy (client_at v client block)) v.geometry.memory_blocks
