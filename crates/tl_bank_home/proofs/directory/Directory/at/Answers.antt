use Rattle.std.proofs.Common.{◌≡◌, ◌<◌, ◌∙◌, ℕ, ap, sym, subst}
use Rattle.std.specs.Prelude.{IsSome}
use Rattle.tl_map.specs.declared.place.Place.{Place}
use Rattle.tl_map.specs.Places.{set_of}
use Rattle.tl_ways.specs.Tables.{entry_at, set_count}
use Rattle.tl_bank_home.proofs.DirectoryLaws.{held-at, some-entry}
use Rattle.tl_bank_home.proofs.directory.Directory.at.Goals as goal

pub unwrap-entry-requires : goal.unwrap-entry-requires
unwrap-entry-requires c =
    let set_is : c.place-set.result.set ≡ set_of c.self.inside.geometry c.args.block =
    ap (λ (p : Place). p.set) c.place-set.ensures.is in
    rw c.entry.ensures
    (subst (λ (set : ℕ). IsSome (entry_at c.self.inside.ways set c.args.way)) (sym set_is)
    (some-entry c.args.self.now c.self.inside.geometry c.self.inside.bank c.self.inside.ways c.self.inside.store c.args.block c.args.way
    c.self.view_is c.requires.lies))

pub returns : goal.returns
returns c =
    let inside : c.place-set.result.set < set_count c.self.inside.ways =
    subst (λ n. c.place-set.result.set < n) (sym c.self.invariant.sets) c.place-set.ensures.set in
    held-at c.args.self.now c.self.inside.geometry c.self.inside.bank c.self.inside.ways c.self.inside.store c.args.block
    c.place-set.result.set c.args.way c.unwrap-entry.result c.self.view_is c.self.invariant c.requires.lies
    (ap (λ (p : Place). p.set) c.place-set.ensures.is) inside (sym c.entry.ensures ∙ c.unwrap-entry.ensures)
