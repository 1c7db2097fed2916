use Rattle.std.proofs.Common.{ℕ, true, Option, arith, refl}
use Rattle.tl_bank_home.specs.Homes.{way_in}
use Rattle.tl_registers.specs.declared.due.Due.TheVariants.{Put}
use Rattle.tl_bank_spec.specs.View.{View}
use Rattle.tl_bank_spec.specs.Own.{ways_below}
use Rattle.tl_bank_spec.specs.declared.action.Action.TheVariants.{Put as did_Put}
use Rattle.tl_bank.specs.Shown.{shown, layers}
use Rattle.tl_bank_laws.proofs.Dues.{acts-at, advances-at}
use Rattle.tl_bank_laws.proofs.Leaving.{GaveUp, leave-held, leave-inside, put-few, put-keeps, put-quiet, ways-left}
use Rattle.tl_bank_laws.proofs.Slots.{below-at}
use Rattle.tl_bank.proofs.bank.Bank.send_put.Goals as goal

pub send_put-requires-clause-block : goal.send_put-requires-clause-block
send_put-requires-clause-block c =
    let v : View = shown c.self.inside in
    let acts = acts-at v c.args.self.now (layers c.self.inside) c.args.own (Put c.args.victim) c.self.invariant c.self.view_is
    c.requires.permitted c.requires.due in
    leave-inside v (layers c.self.inside) c.args.victim c.self.invariant acts.may.0

pub send_put-requires-clause-held : goal.send_put-requires-clause-held
send_put-requires-clause-held c =
    let v : View = shown c.self.inside in
    let acts = acts-at v c.args.self.now (layers c.self.inside) c.args.own (Put c.args.victim) c.self.invariant c.self.view_is
    c.requires.permitted c.requires.due in
    leave-held v (layers c.self.inside) c.args.victim true c.self.invariant (acts.may.0, acts.bank) acts.may.1

pub send_put-requires-clause-quiet : goal.send_put-requires-clause-quiet
send_put-requires-clause-quiet c =
    let v : View = shown c.self.inside in
    put-quiet v (layers c.self.inside) c.args.own c.args.victim c.self.invariant
    (acts-at v c.args.self.now (layers c.self.inside) c.args.own (Put c.args.victim) c.self.invariant c.self.view_is
    c.requires.permitted c.requires.due)

pub send_put-requires-clause-room : goal.send_put-requires-clause-room
send_put-requires-clause-room c =
    let v : View = shown c.self.inside in
    let few = put-few v (layers c.self.inside) c.args.own c.args.victim c.crossings.result c.self.invariant
    (acts-at v c.args.self.now (layers c.self.inside) c.args.own (Put c.args.victim) c.self.invariant c.self.view_is
    c.requires.permitted c.requires.due)
    c.crossings.ensures.each in
    rw c.crossings.ensures.is at few

pub invariant_of-self : goal.invariant_of-self
invariant_of-self c =
    let v : View = shown c.self.inside in
    let lies : ℕ → Option ℕ = way_in c.send_put.new.self in
    let gave : GaveUp c.self.inside.home c.send_put.new.self c.args.victim = record {
      bank = c.send_put.ensures.bank;
      lines = c.send_put.ensures.lines;
      recorded = c.send_put.ensures.recorded;
      ways = c.send_put.ensures.ways;
      free = c.send_put.ensures.free;
      orders = c.send_put.ensures.orders;
      memory = c.send_put.ensures.memory;
    } in
    rw (c.append.ensures.events, c.append.ensures.forgotten)
    (put-keeps v (layers c.self.inside) c.args.own c.args.victim c.append.new.self.room (ways_below lies v.geometry.memory_blocks)
    c.send_put.new.self c.self.invariant
    (acts-at v c.args.self.now (layers c.self.inside) c.args.own (Put c.args.victim) c.self.invariant c.self.view_is
    c.requires.permitted c.requires.due)
    gave c.send_put.ensures.outward (λ b l. below-at lies v.geometry.memory_blocks b l))

pub returns : goal.returns
returns c =
    let v : View = shown c.self.inside in
    let left = c.append.ensures.room in
    let gave : GaveUp c.self.inside.home c.send_put.new.self c.args.victim = record {
      bank = c.send_put.ensures.bank;
      lines = c.send_put.ensures.lines;
      recorded = c.send_put.ensures.recorded;
      ways = c.send_put.ensures.ways;
      free = c.send_put.ensures.free;
      orders = c.send_put.ensures.orders;
      memory = c.send_put.ensures.memory;
    } in
    rw c.append.ensures.forgotten
    (advances-at v c.args.self.now c.args.own (Put c.args.victim) (did_Put c.args.victim) c.append.new.self.events c.append.new.self.room
    (ways_below (way_in c.send_put.new.self) v.geometry.memory_blocks) c.self.view_is c.requires.due c.append.ensures.events
    (omega (arith, left)) (ways-left c.self.inside.home c.send_put.new.self v.geometry.memory_blocks c.args.victim gave) refl)
