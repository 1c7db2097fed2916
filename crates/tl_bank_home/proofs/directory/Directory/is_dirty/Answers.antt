use Rattle.std.proofs.Common.{refl}
use Rattle.tl_bank_home.proofs.DirectoryLaws.{line_of-held, line_of-none}
use Rattle.tl_bank_home.proofs.directory.Directory.is_dirty.Goals as goal

pub returns-in_err-held : goal.returns-in_err-held
returns-in_err-held c = rw (c.from_residual.ensures, line_of-none c.args.self.now c.args.block c.in_err-held.ensures.is) refl

pub returns : goal.returns
returns c =
    rw (c.is_dirty.ensures, line_of-held c.args.self.now c.args.block c.in_ok-held.held.set c.in_ok-held.held.way c.in_ok-held.held.entry c.in_ok-held.ensures.is)
    refl
