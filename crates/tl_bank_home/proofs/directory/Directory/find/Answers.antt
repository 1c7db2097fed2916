use Rattle.std.proofs.Common.{◌≡◌, ◌==◌, ◌∙◌, None, true, false, sym, ap, eqb-true, eq-eqb, subst}
use Rattle.std.specs.Prelude.{◌<◌}
use Rattle.tl_map.specs.declared.place.Place.{Place}
use Rattle.tl_map.specs.Places.{bank_of}
use Rattle.tl_ways.specs.Tables.{set_count}
use Rattle.tl_bank_home.specs.Directories.{way_of}
use Rattle.tl_bank_home.proofs.DirectoryLaws.{held-found, none-found, elsewhere, not_flip, line_of-none}
use Rattle.tl_bank_home.proofs.directory.Directory.find.Goals as goal

-- a block of another bank lies in no way of this one
elsewhere_then : (c : goal.Then-ne) → way_of c.args.self.now c.args.block ≡ None
elsewhere_then c =
    let test : (c.place-bank.result.bank == c.self.inside.bank) ≡ false = not_flip _ true (sym c.ne.ensures ∙ c.if-ne.true) in
    elsewhere c.args.self.now c.self.inside.geometry c.self.inside.bank c.self.inside.ways c.self.inside.store c.args.block c.self.view_is
    (λ same. let equal = eq-eqb c.place-bank.result.bank c.self.inside.bank (ap (λ (p : Place). p.bank) c.place-bank.ensures.is ∙ same) in cc)

-- a block whose tag is not found in its set lies in no way
nowhere : (c : goal.After-from_residual) → way_of c.args.self.now c.args.block ≡ None
nowhere c =
    none-found c.args.self.now c.self.inside.geometry c.self.inside.bank c.self.inside.ways c.self.inside.store c.args.block
    c.place-bank.result.set c.place-bank.result.tag c.self.view_is
    (ap (λ (p : Place). p.set) c.place-bank.ensures.is) (ap (λ (p : Place). p.tag) c.place-bank.ensures.is) c.in_err-way.ensures.none

pub returns-then-ne-clause-is : goal.returns-then-ne-clause-is
returns-then-ne-clause-is c = elsewhere_then c

pub returns-then-ne-clause-none : goal.returns-then-ne-clause-none
returns-then-ne-clause-none c = line_of-none c.args.self.now c.args.block (elsewhere_then c)

pub returns-in_err-way-clause-is : goal.returns-in_err-way-clause-is
returns-in_err-way-clause-is c = rw c.from_residual.ensures (nowhere c)

pub returns-in_err-way-clause-none : goal.returns-in_err-way-clause-none
returns-in_err-way-clause-none c = rw c.from_residual.ensures (line_of-none c.args.self.now c.args.block (nowhere c))

pub returns-clause-is : goal.returns-clause-is
returns-clause-is c =
    let test : (c.place-bank.result.bank == c.self.inside.bank) ≡ true = not_flip _ false (sym c.ne.ensures ∙ c.if-ne.false) in
    let own : bank_of c.self.inside.geometry c.args.block ≡ c.self.inside.bank =
    sym (ap (λ (p : Place). p.bank) c.place-bank.ensures.is) ∙ eqb-true c.place-bank.result.bank c.self.inside.bank test in
    let inside : c.place-bank.result.set < set_count c.self.inside.ways = subst (λ n. c.place-bank.result.set < n) (sym c.self.invariant.sets) c.place-bank.ensures.set in
    held-found c.args.self.now c.self.inside.geometry c.self.inside.bank c.self.inside.ways c.self.inside.store c.args.block
    c.place-bank.result.set c.place-bank.result.tag c.in_ok-way.way c.in_ok-entry.entry c.self.view_is own
    (ap (λ (p : Place). p.set) c.place-bank.ensures.is) (ap (λ (p : Place). p.tag) c.place-bank.ensures.is) inside
    c.in_ok-way.ensures.found c.in_ok-way.ensures.inside c.in_ok-way.ensures.alone (sym c.entry.ensures ∙ c.in_ok-entry.was)
