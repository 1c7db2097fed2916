use Rattle.std.proofs.Common.{◌∙◌}
use Rattle.tl_bank_home.proofs.DirectoryLaws.{choice}
use Rattle.tl_bank_home.proofs.directory.Directory.choose.Goals as goal

pub returns-clause-is : goal.returns-clause-is
returns-clause-is c =
    c.choose.ensures.is
    ∙ choice c.args.self.now c.self.inside.geometry c.self.inside.bank c.self.inside.ways c.self.inside.store c.args.set c.args.busy.now
    c.self.view_is c.self.invariant.ways
