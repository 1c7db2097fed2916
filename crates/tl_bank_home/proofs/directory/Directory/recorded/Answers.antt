use Rattle.std.proofs.Common.{◌∙◌, sym}
use Rattle.tl_bank_home.proofs.DirectoryLaws.{recorded_of-held, recorded_of-none}
use Rattle.tl_bank_home.proofs.directory.Directory.recorded.Goals as goal

pub returns-in-Some : goal.returns-in-Some
returns-in-Some c =
    c.perm.ensures.is
    ∙ sym (recorded_of-held c.args.self.now c.args.client c.args.block c.in-Some.held.set c.in-Some.held.way c.in-Some.held.entry c.in-Some.ensures.is)

pub returns-in-None : goal.returns-in-None
returns-in-None c = sym (recorded_of-none c.args.self.now c.args.client c.args.block c.in-None.ensures.is)
