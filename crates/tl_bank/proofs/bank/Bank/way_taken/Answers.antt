use Rattle.std.proofs.Common.{◌≡◌, ◌<◌, ℕ, List, Option, None, sym, ◌∙◌, ap, subst}
use Rattle.tl_map.specs.Numbers.{Numbers}
use Rattle.tl_map.specs.Places.{set_of}
use Rattle.tl_ways.specs.Orders.{chosen}
use Rattle.tl_bank_home.specs.Homes.{free_at, geometry_in, order_at}
use Rattle.tl_registers.specs.Registers.{held_in}
use Rattle.tl_bank_spec.specs.View.{View}
use Rattle.tl_bank_spec.specs.Own.{IsOwn, way_at}
use Rattle.tl_bank_laws.proofs.Opens.{Offered, offered}
use Rattle.tl_bank.specs.Shown.{shown, layers}
use Rattle.tl_bank.proofs.bank.Bank.way_taken.Goals as goal

-- what home chooses
shows : (c : goal.After-choose) → Offered c.args.self.now c.args.block c.choose.result
shows c =
    let block = c.args.block in
    let home = c.self.inside.home in
    let g : Numbers = c.self.inside.geometry in
    let set : ℕ = set_of g block in
    let busy : List ℕ = c.as_slice.result.now in
    let place : c.args.set ≡ set = c.requires.set ∙ ap (λ (v : View). set_of v.geometry block) (sym c.self.view_is) in
    let value : ℕ → ℕ → List ℕ → Option ℕ = λ s ways held. chosen (λ w. free_at home s w) ways (order_at home s) held in
    let Shows : View → Type 0 = λ v. IsOwn v.geometry v.number block → way_at v block ≡ None → c.args.set < v.geometry.sets
    → c.busy_ways.result.items ≡ held_in c.args.set v.registers → Offered v block c.choose.result in
    subst Shows c.self.view_is
    (λ own away small held.
    offered (shown c.self.inside) (layers c.self.inside) block c.choose.result c.self.invariant own (rw place at small)
    (sym (c.self.invariant.ways.shown block own.0) ∙ away)
    (c.choose.ensures.is ∙ ap (λ s. value s (geometry_in home).ways busy) place
    ∙ ap (λ (n : Numbers). value set n.ways busy) c.self.invariant.home_geometry
    ∙ ap (value set g.ways) (c.as_slice.ensures.value ∙ held ∙ ap (λ s. held_in s c.self.inside.registers.open_registers) place)))
    c.requires.own c.requires.away c.requires.small c.busy_ways.ensures

pub returns-clause-is : goal.returns-clause-is
returns-clause-is c = (shows c).is

pub returns-clause-none : goal.returns-clause-none
returns-clause-none c = (shows c).none
