use Rattle.std.proofs.Common.{◌≡◌, ◌==◌, ℕ, subst}
use Rattle.std.specs.Prelude.{◌↔◌, IsTrue}
use Rattle.tl_types.specs.declared.permission.Perm.TheVariants.{None as NoAccess}
use Rattle.tl_ways.specs.Entries.{Entry, entry_perm}
use Rattle.tl_ways.proofs.EntryLaws.{shared, unshared}
use Rattle.tl_ways.proofs.entry.Entry.is_unshared.Goals as goal

pub returns-then-is_none : goal.returns-then-is_none
returns-then-is_none c =
    let entry : Entry = record { tag = c.self.inside.tag; dirty = c.self.inside.dirty; owner = c.self.inside.owner; branches = c.self.inside.branches } in
    subst (λ (l : Entry). IsTrue (c.self.inside.branches == 0) ↔ ((client : ℕ) → entry_perm l client ≡ NoAccess)) c.self.view_is
    (unshared entry c.if-is_none.ensures)

pub returns-else-is_none : goal.returns-else-is_none
returns-else-is_none c =
    let entry : Entry = record { tag = c.self.inside.tag; dirty = c.self.inside.dirty; owner = c.self.inside.owner; branches = c.self.inside.branches } in
    subst (λ (l : Entry). IsTrue c.is_none.result ↔ ((client : ℕ) → entry_perm l client ≡ NoAccess)) c.self.view_is
    (shared entry c.is_none.result c.if-is_none.ensures c.if-is_none.false)
