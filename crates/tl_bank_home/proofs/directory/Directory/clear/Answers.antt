use Rattle.tl_bank_home.specs.Directories.{IsHeld}
use Rattle.tl_bank_home.proofs.DirectoryLaws.{dir, orders-kept}
use Rattle.tl_bank_home.proofs.MoveLaws.{Clears, IsDirectory-cleared, clears, ways-cleared, lines-cleared, recorded-cleared, free-cleared}
use Rattle.tl_bank_home.proofs.directory.Directory.clear.Goals as goal

pub invariant_of-self : goal.invariant_of-self
invariant_of-self c =
    IsDirectory-cleared c.self.inside.geometry c.self.inside.bank c.self.inside.ways c.clear.new.self c.self.inside.store c.unwrap-held.result.set
    c.unwrap-held.result.way c.self.invariant c.clear.ensures.size c.clear.ensures.entries

-- the way in which the block lies is freed
step : (c : goal.After-clear) → Clears c.args.self.now (dir c.self.inside.geometry c.self.inside.bank c.clear.new.self c.self.inside.store) c.args.block c.unwrap-held.result.set c.unwrap-held.result.way c.unwrap-held.result.entry
step c =
    let held : IsHeld c.args.self.now c.args.block c.unwrap-held.result.set c.unwrap-held.result.way c.unwrap-held.result.entry =
    rw c.unwrap-held.ensures at c.find.ensures.is in
    clears c.args.self.now c.self.inside.geometry c.self.inside.bank c.self.inside.ways c.clear.new.self c.self.inside.store c.args.block c.unwrap-held.result.set c.unwrap-held.result.way c.unwrap-held.result.entry c.self.view_is held c.clear.ensures.size c.clear.ensures.entries

pub returns-clause-ways : goal.returns-clause-ways
returns-clause-ways c = ways-cleared (step c)

pub returns-clause-lines : goal.returns-clause-lines
returns-clause-lines c = lines-cleared (step c)

pub returns-clause-recorded : goal.returns-clause-recorded
returns-clause-recorded c = recorded-cleared (step c)

pub returns-clause-free : goal.returns-clause-free
returns-clause-free c = free-cleared (step c)

pub returns-clause-orders : goal.returns-clause-orders
returns-clause-orders c =
    orders-kept c.args.self.now c.self.inside.geometry c.self.inside.bank c.self.inside.ways c.clear.new.self c.self.inside.store c.self.inside.store c.self.view_is c.clear.ensures.orders
