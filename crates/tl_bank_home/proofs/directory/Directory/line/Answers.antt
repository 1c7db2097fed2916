use Rattle.std.proofs.Common.{◌∙◌, ℕ, List, Some, ap, sym}
use Rattle.tl_ways.specs.Stores.{bytes_at}
use Rattle.tl_bank_home.specs.Directories.{Directory}
use Rattle.tl_bank_home.proofs.DirectoryLaws.{line_of-held, line_of-none, recorded_of-held}
use Rattle.tl_bank_home.proofs.directory.Directory.line.Goals as goal

pub returns-in_err-held-clause-is : goal.returns-in_err-held-clause-is
returns-in_err-held-clause-is c = rw c.from_residual.ensures (line_of-none c.args.self.now c.args.block c.in_err-held.ensures.is)

pub returns-clause-is : goal.returns-clause-is
returns-clause-is c =
    line_of-held c.args.self.now c.args.block c.in_ok-held.held.set c.in_ok-held.held.way c.in_ok-held.held.entry c.in_ok-held.ensures.is
    ∙ sym (ap (λ (bytes : List ℕ). Some (record { bytes = bytes; dirty = c.in_ok-held.held.entry.dirty }))
    (c.read-bytes.ensures ∙ ap (λ (d : Directory). bytes_at d.store c.in_ok-held.held.set c.in_ok-held.held.way) c.self.view_is))

pub returns-clause-recorded : goal.returns-clause-recorded
returns-clause-recorded c =
    λ client. recorded_of-held c.args.self.now client c.args.block c.in_ok-held.held.set c.in_ok-held.held.way c.in_ok-held.held.entry
    c.in_ok-held.ensures.is
