-- Where a client's table has a place for a copy.
use Rattle.std.proofs.Common.{◌≡◌, ◌≢◌, ℕ, ◌<◌, ◌&&◌, not, Bool, true, false, Option, Some, None, is_some, refl, sym, ◌∙◌, ap, arith, nat_le}
use Rattle.std.proofs.lemmas.Bool.Decides.{nat_tests}
use Rattle.tl_types.specs.declared.permission.Perm.TheVariants.{None as p_None}
use Rattle.tl_types.specs.declared.wait.Awaited.{Awaited}
use Rattle.tl_protocol.specs.Copy.{perm_of}
use Rattle.tl_protocol.specs.declared.copy.CachedCopy.{CachedCopy}
use Rattle.tl_protocol.specs.declared.copy.CachedCopy.TheVariants.{Absent, Readable, Writable}
use Rattle.tl_copies.specs.Copies.{entries, held_at}
use Rattle.tl_copies.specs.declared.held.Held.{Held}
use Rattle.tl_bank_spec.specs.Cases.{copies_full}
use Rattle.tl_bank_spec.specs.View.{View, client_at}
use Rattle.tl_bank_spec.specs.Tables.{has_entry_for, has_entry, entries_at}
use Rattle.tl_bank_laws.specs.Entry.{HasPlace}
use Rattle.tl_bank_laws.specs.Layers.{Layers}
use Rattle.tl_bank_laws.specs.Means.{Means}
use Rattle.tl_bank_laws.proofs.Entries.{entries-is, has_entry-is, is_some-entry}

-- a copy above None has an entry
pub entry-there : (copy : CachedCopy) (wait : Awaited) → perm_of copy ≢ p_None → has_entry_for copy wait ≡ true
entry-there Absent wait some = absurd (some refl)
entry-there (Readable bytes) wait some = refl
entry-there (Writable bytes dirty) wait some = refl

-- where the test finds an entry, there is one
some-is : (o : Option Held) → is_some o ≡ true → o ≢ None
some-is None h = cc
some-is (Some x) h = λ e. cc

-- where there is an entry, or none is needed, there is a place for another copy
pub place-there : (v : View) (h : Layers) (c b : ℕ) (copy : CachedCopy) (wait : Awaited) → Means v h
    → c < v.geometry.clients → b < v.geometry.memory_blocks → (has_entry_for copy wait ≡ true → has_entry (client_at v c b) ≡ true) → HasPlace h.copies c b copy wait
place-there v h c b copy wait m lt l has = record {
  client = rw m.copies_clients lt;
  inside = rw m.copies_blocks l;
  room = λ need none.
      absurd (some-is (held_at h.copies c b)
      (ap (λ (o : Option Held). is_some o) (m.copies c b lt l) ∙ is_some-entry (client_at v c b).held (client_at v c b).wait ∙ has need) none);
}

-- a table without an entry of the block, which is not found full, has room for one more
room-is : (has : Bool) (copies entries : ℕ) → (not has && nat_le copies entries) ≡ false → has ≡ false → entries < copies
room-is true copies entries full h = cc
room-is false copies entries full h = grind (arith, nat_tests)

-- where there is no entry, the test finds none
none-is : (o : Option Held) → o ≡ None → is_some o ≡ false
none-is None h = refl
none-is (Some x) h = cc

-- where the client's table is not full, there is a place for any copy
pub place-free : (v : View) (h : Layers) (c b : ℕ) (copy : CachedCopy) (wait : Awaited) → Means v h
    → c < v.geometry.clients → b < v.geometry.memory_blocks → copies_full v c b ≡ false → HasPlace h.copies c b copy wait
place-free v h c b copy wait m lt l free = record {
  client = rw m.copies_clients lt;
  inside = rw m.copies_blocks l;
  room = λ need none.
      rw (entries-is v h c m lt, m.copies_limit)
      (room-is (has_entry (client_at v c b)) v.geometry.copies (entries_at v c) free
      (sym (has_entry-is v h c b m lt l) ∙ none-is (held_at h.copies c b) none));
}
