use Rattle.std.proofs.Common.{◌≡◌, None, ap, rules, subst}
use Rattle.tl_bank_spec.specs.Calls.{load_cases}
use Rattle.tl_bank_spec.specs.Refusal.{first_of}
use Rattle.tl_bank_spec.specs.View.{View}
use Rattle.tl_bank_laws.specs.Means.{Means}
use Rattle.tl_bank.specs.Shown.{layers}
use Rattle.tl_bank_laws.proofs.Loads.{load-fits}
use Rattle.tl_bank.proofs.bank.Bank.check_load.Goals as goal

pub read_in-bytes-requires-clause-inside : goal.read_in-bytes-requires-clause-inside
read_in-bytes-requires-clause-inside c =
    let g : c.self.inside.geometry ≡ c.args.self.now.geometry = ap (λ (v : View). v.geometry) c.self.view_is in
    let m : Means c.args.self.now (layers c.self.inside) =
    subst (λ (v : View). Means v (layers c.self.inside)) c.self.view_is c.self.invariant in
    let allowed : first_of (load_cases c.args.self.now c.args.client c.args.address c.args.len c.args.clock) ≡ None = search rules in
    let fits = load-fits c.args.self.now (layers c.self.inside) c.args.client c.args.address c.args.len c.args.clock m allowed in
    rw (c.offset.ensures.is, c.entry-held.ensures.bytes, c.block_at-block.ensures, g) fits.0

pub returns-then-is_clock_full-clause-refused : goal.returns-then-is_clock_full-clause-refused
returns-then-is_clock_full-clause-refused c = search rules

pub returns-clause-permitted : goal.returns-clause-permitted
returns-clause-permitted c = search rules
