use Rattle.std.proofs.Common.{◌≡◌, ◌∙◌, ℕ, Some, ap, sym}
use Rattle.std.specs.Prelude.{is_none}
use Rattle.tl_map.specs.declared.place.Place.{Place}
use Rattle.tl_ways.specs.Tables.{entry_at}
use Rattle.tl_bank_home.proofs.DirectoryLaws.{block_found, block_lies, free-is, on_some}
use Rattle.tl_bank_home.proofs.directory.Directory.occupant.Goals as goal

-- the place with this bank, set and tag
abbrev place : ℕ → ℕ → ℕ → Place
place bank set tag = record { bank = bank; set = set; tag = tag }

pub returns-in_err-entry-clause-free : goal.returns-in_err-entry-clause-free
returns-in_err-entry-clause-free c =
    rw c.from_residual.ensures (ap is_none (sym c.in_err-entry.was ∙ c.entry.ensures))
    ∙ sym (free-is c.args.self.now c.self.inside.geometry c.self.inside.bank c.self.inside.ways c.self.inside.store c.args.set c.args.way c.self.view_is)

pub returns-clause-way : goal.returns-clause-way
returns-clause-way c = on_some c.block_of.result
    (λ block found.
    (block_lies c.args.self.now c.self.inside.geometry c.self.inside.bank c.self.inside.ways c.self.inside.store c.args.set c.args.way block c.in_ok-entry.entry c.self.view_is
    c.self.invariant (sym c.entry.ensures ∙ c.in_ok-entry.was)
    (found.1 ∙ ap (λ tag. place c.self.inside.bank c.args.set tag) c.tag.ensures)).1)
    c.block_of.ensures.found

pub returns-clause-free : goal.returns-clause-free
returns-clause-free c =
    let line : entry_at c.self.inside.ways c.args.set c.args.way ≡ Some c.in_ok-entry.entry = sym c.entry.ensures ∙ c.in_ok-entry.was in
    block_found c.self.inside.geometry c.self.inside.bank c.args.set c.in_ok-entry.entry.tag c.block_of.result
    (c.self.invariant.placed c.args.set c.args.way c.in_ok-entry.entry line) (rw (← c.tag.ensures) c.block_of.ensures.none)
    ∙ sym (free-is c.args.self.now c.self.inside.geometry c.self.inside.bank c.self.inside.ways c.self.inside.store c.args.set c.args.way c.self.view_is ∙ ap is_none line)
