use Rattle.std.proofs.Common.{refl, ap, Some}
use Rattle.tl_bank_home.specs.Directories.{Directory}
use Rattle.tl_ways.specs.Stores.{bytes_at}
use Rattle.tl_bank_home.proofs.DirectoryLaws.{line_of-held, line_of-none}
use Rattle.tl_bank_home.proofs.directory.Directory.bytes.Goals as goal

pub returns-in_err-held : goal.returns-in_err-held
returns-in_err-held c = rw (c.from_residual.ensures, line_of-none c.args.self.now c.args.block c.in_err-held.ensures.is) refl

pub returns : goal.returns
returns c =
    rw (c.read.ensures, line_of-held c.args.self.now c.args.block c.in_ok-held.held.set c.in_ok-held.held.way c.in_ok-held.held.entry c.in_ok-held.ensures.is)
    (ap (λ (d : Directory). Some (bytes_at d.store c.in_ok-held.held.set c.in_ok-held.held.way)) c.self.view_is)
