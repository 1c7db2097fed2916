use Rattle.std.proofs.Common.{ap}
use Rattle.std.specs.Prelude.{is_none}
use Rattle.tl_bank_home.specs.Directories.{free_in, order_of}
use Rattle.tl_bank_home.proofs.DirectoryLaws.{ways-fresh, line_of-none, recorded_of-none}
use Rattle.tl_bank_home.proofs.directory.Directory.new.Goals as goal

pub returns-clause-ways : goal.returns-clause-ways
returns-clause-ways c = ways-fresh c.args.geometry c.args.bank c.in_ok-ways.ways c.in_ok-store.store c.in_ok-ways.ensures.free

pub returns-clause-lines : goal.returns-clause-lines
returns-clause-lines c = λ b. line_of-none _ b (ways-fresh c.args.geometry c.args.bank c.in_ok-ways.ways c.in_ok-store.store c.in_ok-ways.ensures.free b)

pub returns-clause-recorded : goal.returns-clause-recorded
returns-clause-recorded c = λ client b.
    recorded_of-none _ client b (ways-fresh c.args.geometry c.args.bank c.in_ok-ways.ways c.in_ok-store.store c.in_ok-ways.ensures.free b)

pub returns-clause-free : goal.returns-clause-free
unfolding free_in
returns-clause-free c = λ set way. ap is_none (c.in_ok-ways.ensures.free set way)

pub returns-clause-orders : goal.returns-clause-orders
unfolding order_of
returns-clause-orders c = c.in_ok-ways.ensures.orders
