use Rattle.std.proofs.Common.{◌≡◌, ◌∙◌, ◌<◌, ap, sym, subst}
use Rattle.tl_map.specs.declared.place.Place.{Place}
use Rattle.tl_ways.proofs.EntryLaws.{of-clients}
use Rattle.tl_bank_home.specs.Directories.{Directory}
use Rattle.tl_map.specs.Places.{set_of, tag_of}
use Rattle.tl_bank_home.proofs.DirectoryLaws.{dir, way_of-no_line, orders-kept}
use Rattle.tl_bank_home.proofs.MoveLaws.{Fills, fills, tag_is_new, IsDirectory-filled, own_place, ways-filled, lines-filled, recorded-filled, free-filled}
use Rattle.tl_bank_home.proofs.directory.Directory.place.Goals as goal

pub place-requires-clause-alone : goal.place-requires-clause-alone
place-requires-clause-alone c = λ other apart.
    tag_is_new c.args.self.now c.self.inside.geometry c.self.inside.bank c.self.inside.ways c.self.inside.store c.args.block c.place-place.result.set c.new.result.tag other c.self.view_is c.self.invariant
    c.requires.own (ap (λ (p : Place). p.set) c.place-place.ensures.is)
    (c.new.ensures.tag ∙ ap (λ (p : Place). p.tag) c.place-place.ensures.is) (way_of-no_line c.args.self.now c.args.block c.requires.away)

pub invariant_of-self : goal.invariant_of-self
invariant_of-self c =
    let tag : c.new.result.tag ≡ tag_of c.self.inside.geometry c.args.block = c.new.ensures.tag ∙ ap (λ (p : Place). p.tag) c.place-place.ensures.is in
    let set : c.place-place.result.set ≡ set_of c.self.inside.geometry c.args.block = ap (λ (p : Place). p.set) c.place-place.ensures.is in
    IsDirectory-filled c.self.inside.geometry c.self.inside.bank c.self.inside.ways c.place.new.self c.self.inside.store c.write.new.self c.args.block c.place-place.result.set c.args.way c.new.result
    c.self.invariant
    (subst (λ (d : Directory). c.args.block < d.geometry.memory_blocks) (sym c.self.view_is) c.requires.block)
    (own_place c.args.self.now c.self.inside.geometry c.self.inside.bank c.self.inside.ways c.self.inside.store c.args.block c.place-place.result.set c.new.result.tag c.self.view_is c.requires.own set tag)
    (subst (λ n. c.args.way < n) (sym c.self.invariant.ways) (subst (λ (d : Directory). c.args.way < d.geometry.ways) (sym c.self.view_is) c.requires.way))
    (λ other. tag_is_new c.args.self.now c.self.inside.geometry c.self.inside.bank c.self.inside.ways c.self.inside.store c.args.block c.place-place.result.set c.new.result.tag other c.self.view_is c.self.invariant
    c.requires.own set tag (way_of-no_line c.args.self.now c.args.block c.requires.away))
    c.place.ensures.size c.place.ensures.entries c.write.ensures.sets c.write.ensures.ways
    (of-clients c.self.inside.geometry.clients c.new.result (λ client past. c.new.ensures.perms client))

-- the free way is filled with the block's new entry and its bytes
step : (c : goal.After-write) → Fills c.args.self.now (dir c.self.inside.geometry c.self.inside.bank c.place.new.self c.write.new.self) c.args.block c.place-place.result.set c.args.way c.new.result c.args.bytes
step c =
    fills c.args.self.now c.self.inside.geometry c.self.inside.bank c.self.inside.ways c.place.new.self c.self.inside.store c.write.new.self c.args.block c.place-place.result.set c.args.way c.new.result c.args.bytes
    c.self.view_is c.self.invariant c.requires.own (ap (λ (p : Place). p.set) c.place-place.ensures.is)
    (c.new.ensures.tag ∙ ap (λ (p : Place). p.tag) c.place-place.ensures.is) (way_of-no_line c.args.self.now c.args.block c.requires.away) c.requires.way c.requires.free
    c.new.ensures.perms c.new.ensures.dirty c.place.ensures.size c.place-place.ensures.set c.place.ensures.entries c.write.ensures.bytes

pub returns-clause-ways : goal.returns-clause-ways
returns-clause-ways c = ways-filled (step c)

pub returns-clause-lines : goal.returns-clause-lines
returns-clause-lines c = lines-filled (step c)

pub returns-clause-recorded : goal.returns-clause-recorded
returns-clause-recorded c = recorded-filled (step c)

pub returns-clause-free : goal.returns-clause-free
returns-clause-free c = free-filled (step c)

pub returns-clause-orders : goal.returns-clause-orders
returns-clause-orders c =
    orders-kept c.args.self.now c.self.inside.geometry c.self.inside.bank c.self.inside.ways c.place.new.self c.self.inside.store c.write.new.self c.self.view_is c.place.ensures.orders
