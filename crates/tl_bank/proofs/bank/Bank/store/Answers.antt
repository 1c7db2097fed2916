use Rattle.std.proofs.Common.{◌≡◌, ℕ, ◌+◌, ◌/◌, ◌%◌, List, length, Option, None, if◌then◌else◌, refl, ◌∙◌, sym, subst, ap}
use Rattle.std.specs.Option.{option_map}
use Rattle.tl_types.specs.declared.permission.Perm.TheVariants.{Tip}
use Rattle.tl_types.specs.declared.wait.Awaited.{Awaited}
use Rattle.tl_protocol.specs.Copy.{perm_of, stored_in}
use Rattle.tl_protocol.specs.declared.client.Client.{Client}
use Rattle.tl_protocol.specs.declared.copy.CachedCopy.{CachedCopy}
use Rattle.tl_protocol.specs.declared.copy.CachedCopy.TheVariants.{Absent, Readable, Writable}
use Rattle.tl_copies.specs.Copies.{held_at, is_cell}
use Rattle.tl_copies.specs.Held.{stored}
use Rattle.tl_copies.specs.declared.held.Held.{Held}
use Rattle.tl_bank_spec.specs.Calls.{store_cases}
use Rattle.tl_bank_spec.specs.Refusal.{first_of}
use Rattle.tl_bank_spec.specs.View.{View, client_at}
use Rattle.tl_bank_spec.specs.Clock.{latest}
use Rattle.tl_bank_laws.specs.Entry.{entry_with}
use Rattle.tl_bank.specs.Shown.{shown, layers}
use Rattle.tl_bank_laws.proofs.Allowed.{store-allowed}
use Rattle.tl_bank_laws.proofs.Stores.{Writes, store-keeps}
use Rattle.tl_bank.proofs.bank.Bank.store.Goals as goal

-- the entry of a copy that may be written, after a store into it, is that of the copy which the store leaves
stored-entry : (copy : CachedCopy) (wait : Awaited) (offset : ℕ) (bytes : List ℕ) → perm_of copy ≡ Tip
    → option_map (λ (h : Held). stored offset bytes h) (entry_with copy wait) ≡ entry_with (stored_in offset bytes copy) wait
stored-entry Absent wait offset bytes h = cc
stored-entry (Readable own) wait offset bytes h = cc
stored-entry (Writable own dirty) wait offset bytes h = refl

pub invariant_of-self : goal.invariant_of-self
invariant_of-self c =
    let v : View = shown c.self-2.inside in
    let at : ℕ = c.args.address % v.geometry.block_bytes in
    let own : ℕ = c.args.address / v.geometry.block_bytes in
    let block : ℕ = c.block_at-block.result in
    let k : Client = client_at v c.args.client own in
    let copy : CachedCopy = stored_in at c.args.bytes.now k.held in
    let Shows : View → Type 0 =
    λ w. (first_of (store_cases w c.args.client c.args.address (length c.args.bytes.now) c.args.when.clock) ≡ None)
    × (block ≡ c.args.address / w.geometry.block_bytes) × (c.next_stamp-stamp.result ≡ latest w c.args.when.clock + 1) in
    let shows : Shows v = subst Shows (sym (c.self-2.view_is ∙ c.make_room.ensures.same)) (
      c.in_ok-place.ensures.permitted,
      c.block_at-block.ensures ∙ ap (λ (w : View). c.args.address / w.geometry.block_bytes) c.self.view_is,
      c.next_stamp-stamp.ensures,
    ) in
    let writes : Writes v c.args.client c.args.address c.args.bytes.now c.args.when.clock block copy (client_at v c.args.client block).wait c.next_stamp-stamp.result =
    record { allowed = shows.0; copy_is = refl; block_is = shows.1; wait_is = refl; stamp_is = shows.2 } in
    let ok = store-allowed v c.args.client c.args.address (length c.args.bytes.now) c.args.when.clock shows.0 in
    let was : held_at c.self-2.inside.copies c.args.client own ≡ entry_with k.held k.wait =
    c.self-2.invariant.copies c.args.client own ok.0.client ok.0.block in
    let entry : option_map (λ (h : Held). stored c.offset-offset.result c.access_of-access.result h) (held_at c.self-2.inside.copies c.args.client block)
    ≡ entry_with copy (client_at v c.args.client block).wait =
    rw (c.offset-offset.ensures.is, c.access_of-access.ensures, shows.1)
    (ap (λ (o : Option Held). option_map (λ (h : Held). stored at c.args.bytes.now h) o) was ∙ stored-entry k.held k.wait at c.args.bytes.now ok.1) in
    rw (c.append.ensures.events, c.append.ensures.forgotten, c.access_of-access.ensures)
    (store-keeps v (layers c.self-2.inside) c.args.client c.args.address c.args.bytes.now c.args.when.clock block
    copy (client_at v c.args.client block).wait c.next_stamp-stamp.result c.args.when.index c.append.new.self.room
    c.store.new.self c.self-2.invariant writes c.store.ensures.same
    (λ x y. c.store.ensures.after x y
    ∙ ap (λ (o : Option Held). if is_cell c.args.client block x y then o else held_at c.self-2.inside.copies x y) entry))
