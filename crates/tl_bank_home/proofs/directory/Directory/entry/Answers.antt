use Rattle.std.proofs.Common.{◌≡◌, Some, refl, subst, sym}
use Rattle.tl_ways.specs.Entries.{IsOfClients}
use Rattle.tl_ways.specs.Tables.{entry_at}
use Rattle.tl_bank_home.specs.Directories.{Directory}
use Rattle.tl_bank_home.proofs.DirectoryLaws.{line_of-held, line_of-none, recorded_of-held, recorded_of-none}
use Rattle.tl_bank_home.proofs.directory.Directory.entry.Goals as goal

pub returns-in_err-held-clause-dirty : goal.returns-in_err-held-clause-dirty
returns-in_err-held-clause-dirty c = rw (c.from_residual.ensures) (line_of-none c.args.self.now c.args.block c.in_err-held.ensures.is)

pub returns-in_err-held-clause-recorded : goal.returns-in_err-held-clause-recorded
returns-in_err-held-clause-recorded c =
    λ client. rw (c.from_residual.ensures) (sym (recorded_of-none c.args.self.now client c.args.block c.in_err-held.ensures.is))

pub returns-clause-dirty : goal.returns-clause-dirty
returns-clause-dirty c =
    rw (line_of-held c.args.self.now c.args.block c.in_ok-held.held.set c.in_ok-held.held.way c.in_ok-held.held.entry c.in_ok-held.ensures.is) refl

pub returns-clause-recorded : goal.returns-clause-recorded
returns-clause-recorded c =
    λ client. sym (recorded_of-held c.args.self.now client c.args.block c.in_ok-held.held.set c.in_ok-held.held.way c.in_ok-held.held.entry
    c.in_ok-held.ensures.is)

pub returns-clause-clients : goal.returns-clause-clients
returns-clause-clients c =
    subst (λ (d : Directory). IsOfClients d.geometry.clients c.in_ok-held.held.entry) c.self.view_is
    (c.self.invariant.clients c.in_ok-held.held.set c.in_ok-held.held.way c.in_ok-held.held.entry
    (subst (λ (d : Directory). entry_at d.table c.in_ok-held.held.set c.in_ok-held.held.way ≡ Some c.in_ok-held.held.entry)
    (sym c.self.view_is) (c.in_ok-held.ensures.is).line))
