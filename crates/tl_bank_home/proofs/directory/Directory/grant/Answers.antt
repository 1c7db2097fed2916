use Rattle.std.proofs.Common.{◌≡◌, ◌∙◌, ◌<◌, Some, ap, refl, sym, subst, arith}
use Rattle.tl_map.proofs.LimitLaws.{few_clients}
use Rattle.tl_ways.proofs.EntryLaws.{of-clients-set}
use Rattle.tl_ways.specs.Tables.{IsSameSize, WayTable, entry_at}
use Rattle.tl_ways.specs.Stores.{bytes_at}
use Rattle.tl_bank_home.specs.Directories.{Directory, IsHeld}
use Rattle.tl_bank_home.proofs.DirectoryLaws.{Replaces, dir, replaces, IsDirectory-replaced, ways-kept, lines-kept, recorded-set, recorded_of-held, free-kept, orders-touched}
use Rattle.tl_bank_home.proofs.directory.Directory.grant.Goals as goal

-- two tables of one size as a third
same-size : {a b c : WayTable} → IsSameSize a b → IsSameSize b c → IsSameSize a c
same-size first second = record { sets = second.sets ∙ first.sets; ways = second.ways ∙ first.ways }

pub set-requires-clause-known : goal.set-requires-clause-known
set-requires-clause-known c =
    let few = few_clients c.self.inside.geometry c.clients.ensures.lawful in
    let known : c.args.client < c.self.inside.geometry.clients =
    subst (λ (d : Directory). c.args.client < d.geometry.clients) (sym c.self.view_is) c.requires.known in
    omega arith

pub set-requires-clause-tip : goal.set-requires-clause-tip
set-requires-clause-tip c = λ tip other apart.
    let held : IsHeld c.args.self.now c.args.block c.at-held.result.set c.at-held.result.way c.at-held.result.entry =
    c.at-held.ensures in
    sym (recorded_of-held c.args.self.now other c.args.block c.at-held.result.set c.at-held.result.way c.at-held.result.entry held) ∙ c.requires.tip tip other apart

pub set-requires-clause-branch : goal.set-requires-clause-branch
set-requires-clause-branch c = λ branch other apart same.
    let held : IsHeld c.args.self.now c.args.block c.at-held.result.set c.at-held.result.way c.at-held.result.entry =
    c.at-held.ensures in
    c.requires.branch branch other apart (recorded_of-held c.args.self.now other c.args.block c.at-held.result.set c.at-held.result.way c.at-held.result.entry held ∙ same)

pub invariant_of-self : goal.invariant_of-self
invariant_of-self c =
    let held : IsHeld c.args.self.now c.args.block c.at-held.result.set c.at-held.result.way c.at-held.result.entry =
    c.at-held.ensures in
    IsDirectory-replaced c.self.inside.geometry c.self.inside.bank c.self.inside.ways c.touch.new.self c.self.inside.store c.self.inside.store c.at-held.result.set c.at-held.result.way
    c.at-held.result.entry c.set.new.self c.self.invariant
    (subst (λ (d : Directory). entry_at d.table c.at-held.result.set c.at-held.result.way ≡ Some c.at-held.result.entry) (sym c.self.view_is) held.line)
    c.set.ensures.tag (same-size c.place.ensures.size c.touch.ensures.size) (λ x y. c.touch.ensures.entries x y ∙ c.place.ensures.entries x y) refl refl
    (λ kept.
    of-clients-set c.self.inside.geometry.clients c.args.client c.args.perm c.at-held.result.entry c.set.new.self
    (subst (λ (d : Directory). c.args.client < d.geometry.clients) (sym c.self.view_is) c.requires.known) kept c.set.ensures.perms)

-- the block's entry is replaced by the one in which the permission is set
step : (c : goal.After-touch) → Replaces c.args.self.now (dir c.self.inside.geometry c.self.inside.bank c.touch.new.self c.self.inside.store) c.args.block c.at-held.result.set c.at-held.result.way c.at-held.result.entry c.set.new.self
step c =
    let held : IsHeld c.args.self.now c.args.block c.at-held.result.set c.at-held.result.way c.at-held.result.entry =
    c.at-held.ensures in
    replaces c.args.self.now c.self.inside.geometry c.self.inside.bank c.self.inside.ways c.touch.new.self c.self.inside.store c.self.inside.store c.args.block c.at-held.result.set c.at-held.result.way c.at-held.result.entry c.set.new.self
    c.self.view_is held c.set.ensures.tag (same-size c.place.ensures.size c.touch.ensures.size) (λ x y. c.touch.ensures.entries x y ∙ c.place.ensures.entries x y) (λ x y inside other. refl)

pub returns-clause-ways : goal.returns-clause-ways
returns-clause-ways c = ways-kept (step c)

pub returns-clause-lines : goal.returns-clause-lines
returns-clause-lines c =
    lines-kept (step c) (ap (λ (d : Directory). bytes_at d.store c.at-held.result.set c.at-held.result.way) c.self.view_is) c.set.ensures.dirty

pub returns-clause-recorded : goal.returns-clause-recorded
returns-clause-recorded c = recorded-set (step c) c.args.client c.args.perm c.set.ensures.perms

pub returns-clause-free : goal.returns-clause-free
returns-clause-free c = free-kept (step c)

pub returns-clause-orders : goal.returns-clause-orders
returns-clause-orders c =
    let held : IsHeld c.args.self.now c.args.block c.at-held.result.set c.at-held.result.way c.at-held.result.entry =
    c.at-held.ensures in
    orders-touched c.args.self.now c.self.inside.geometry c.self.inside.bank c.self.inside.ways c.touch.new.self c.self.inside.store c.self.inside.store c.args.block c.at-held.result.set c.at-held.result.way c.at-held.result.entry c.self.view_is held
    (λ x. c.touch.ensures.orders x ∙ rw (c.place.ensures.orders c.at-held.result.set, c.place.ensures.orders x) refl)
