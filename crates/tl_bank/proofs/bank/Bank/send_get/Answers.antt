use Rattle.std.proofs.Common.{ℕ, Option, None, arith, ap, refl}
use Rattle.std.specs.Prelude.{slice_index_or}
use Rattle.tl_bank_home.specs.Homes.{way_in}
use Rattle.tl_registers.specs.declared.due.Due.TheVariants.{Get}
use Rattle.tl_bank_spec.specs.View.{View}
use Rattle.tl_bank_spec.specs.Own.{ways_below}
use Rattle.tl_bank_spec.specs.declared.action.Action.TheVariants.{Get as did_Get}
use Rattle.tl_bank.specs.Shown.{shown, layers}
use Rattle.tl_bank_laws.proofs.Dues.{acts-at, advances-at}
use Rattle.tl_bank_laws.proofs.SendGet.{get-few, get-keeps, get-quiet}
use Rattle.tl_bank_laws.proofs.Slots.{below-at, below-same}
use Rattle.tl_bank.proofs.bank.Bank.send_get.Goals as goal

pub send_get-requires-clause-quiet : goal.send_get-requires-clause-quiet
send_get-requires-clause-quiet c =
    let v : View = shown c.self.inside in
    get-quiet v (layers c.self.inside) c.args.own c.self.invariant
    (acts-at v c.args.self.now (layers c.self.inside) c.args.own Get c.self.invariant c.self.view_is c.requires.permitted c.requires.due)

pub send_get-requires-clause-room : goal.send_get-requires-clause-room
send_get-requires-clause-room c =
    let v : View = shown c.self.inside in
    let few = get-few v (layers c.self.inside) c.args.own c.crossings.result c.self.invariant
    (acts-at v c.args.self.now (layers c.self.inside) c.args.own Get c.self.invariant c.self.view_is c.requires.permitted c.requires.due)
    c.crossings.ensures.each in
    rw c.crossings.ensures.is at few

pub invariant_of-self : goal.invariant_of-self
invariant_of-self c =
    let v : View = shown c.self.inside in
    let lies : ℕ → Option ℕ = way_in c.send_get.new.self in
    rw (c.append.ensures.events, c.append.ensures.forgotten)
    (get-keeps v (layers c.self.inside) c.args.own c.append.new.self.room (ways_below lies v.geometry.memory_blocks) c.send_get.new.self
    c.self.invariant
    (acts-at v c.args.self.now (layers c.self.inside) c.args.own Get c.self.invariant c.self.view_is c.requires.permitted c.requires.due)
    c.send_get.ensures.bank c.send_get.ensures.home c.send_get.ensures.outward c.send_get.ensures.memory
    (λ b l. below-at lies v.geometry.memory_blocks b l))

pub returns : goal.returns
returns c =
    let v : View = shown c.self.inside in
    let left = c.append.ensures.room in
    let same = below-same (way_in c.send_get.new.self) (way_in c.self.inside.home) v.geometry.memory_blocks (λ b l. c.send_get.ensures.home.ways.ways b) in
    rw c.append.ensures.forgotten
    (advances-at v c.args.self.now c.args.own Get did_Get c.append.new.self.events c.append.new.self.room
    (ways_below (way_in c.send_get.new.self) v.geometry.memory_blocks) c.self.view_is c.requires.due c.append.ensures.events
    (omega (arith, left)) (λ b. ap (λ ways. slice_index_or ways b None) same) refl)
