use Rattle.std.proofs.Common.{◌≡◌, Some, true, ap, subst, sym}
use Rattle.tl_ways.specs.Entries.{Entry}
use Rattle.tl_ways.specs.Tables.{entry_at}
use Rattle.tl_bank_home.specs.Directories.{Directory, IsHeld}
use Rattle.tl_bank_home.proofs.DirectoryLaws.{Replaces, IsDirectory-replaced, dir, replaces, written_here, written_other, ways-kept, lines-written, recorded-kept, free-kept, orders-kept}
use Rattle.tl_bank_home.proofs.directory.Directory.write.Goals as goal

pub invariant_of-self : goal.invariant_of-self
invariant_of-self c =
    let held : IsHeld c.args.self.now c.args.block c.at-held.result.set c.at-held.result.way c.at-held.result.entry =
    c.at-held.ensures in
    IsDirectory-replaced c.self.inside.geometry c.self.inside.bank c.self.inside.ways c.place.new.self c.self.inside.store c.write.new.self
    c.at-held.result.set c.at-held.result.way c.at-held.result.entry c.set_dirty.new.self c.self.invariant
    (subst (λ (d : Directory). entry_at d.table c.at-held.result.set c.at-held.result.way ≡ Some c.at-held.result.entry)
    (sym c.self.view_is) held.line)
    (ap (λ (e : Entry). e.tag) c.set_dirty.ensures.dirty) c.place.ensures.size c.place.ensures.entries c.write.ensures.sets c.write.ensures.ways
    (λ kept. rw c.set_dirty.ensures.dirty (record { owner = kept.owner; bits = kept.bits }))

-- the block's entry is replaced by the one that is marked dirty, and no other way's bytes change
step : (c : goal.After-write) → Replaces c.args.self.now (dir c.self.inside.geometry c.self.inside.bank c.place.new.self c.write.new.self) c.args.block c.at-held.result.set c.at-held.result.way c.at-held.result.entry c.set_dirty.new.self
step c =
    let held : IsHeld c.args.self.now c.args.block c.at-held.result.set c.at-held.result.way c.at-held.result.entry =
    c.at-held.ensures in
    replaces c.args.self.now c.self.inside.geometry c.self.inside.bank c.self.inside.ways c.place.new.self c.self.inside.store c.write.new.self c.args.block c.at-held.result.set c.at-held.result.way c.at-held.result.entry c.set_dirty.new.self
    c.self.view_is held (ap (λ (e : Entry). e.tag) c.set_dirty.ensures.dirty) c.place.ensures.size c.place.ensures.entries
    (written_other c.self.inside.geometry c.self.inside.bank c.self.inside.ways c.self.inside.store c.write.new.self c.at-held.result.set c.at-held.result.way c.args.bytes c.self.invariant c.write.ensures.bytes)

pub returns-clause-ways : goal.returns-clause-ways
returns-clause-ways c = ways-kept (step c)

pub returns-clause-lines : goal.returns-clause-lines
returns-clause-lines c =
    let held : IsHeld c.args.self.now c.args.block c.at-held.result.set c.at-held.result.way c.at-held.result.entry =
    c.at-held.ensures in
    lines-written (step c) c.args.bytes true
    (written_here c.args.self.now c.self.inside.geometry c.self.inside.bank c.self.inside.ways c.self.inside.store c.write.new.self c.args.block c.at-held.result.set c.at-held.result.way c.at-held.result.entry c.args.bytes c.self.view_is c.self.invariant held c.write.ensures.bytes)
    (ap (λ (e : Entry). e.dirty) c.set_dirty.ensures.dirty)

pub returns-clause-recorded : goal.returns-clause-recorded
returns-clause-recorded c = recorded-kept (step c) c.set_dirty.ensures.perms

pub returns-clause-free : goal.returns-clause-free
returns-clause-free c = free-kept (step c)

pub returns-clause-orders : goal.returns-clause-orders
returns-clause-orders c =
    orders-kept c.args.self.now c.self.inside.geometry c.self.inside.bank c.self.inside.ways c.place.new.self c.self.inside.store c.write.new.self c.self.view_is c.place.ensures.orders
