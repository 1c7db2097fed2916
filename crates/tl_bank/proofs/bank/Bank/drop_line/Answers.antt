use Rattle.std.proofs.Common.{ℕ, false, Option, arith, refl}
use Rattle.tl_bank_home.specs.Homes.{way_in}
use Rattle.tl_registers.specs.declared.due.Due.TheVariants.{Drop}
use Rattle.tl_bank_spec.specs.View.{View}
use Rattle.tl_bank_spec.specs.Own.{ways_below}
use Rattle.tl_bank_spec.specs.declared.action.Action.TheVariants.{Drop as did_Drop}
use Rattle.tl_bank.specs.Shown.{shown, layers}
use Rattle.tl_bank_laws.proofs.Dues.{acts-at, advances-at}
use Rattle.tl_bank_laws.proofs.Leaving.{GaveUp, drop-keeps, leave-held, leave-inside, ways-left}
use Rattle.tl_bank_laws.proofs.Slots.{below-at}
use Rattle.tl_bank.proofs.bank.Bank.drop_line.Goals as goal

pub drop_line-requires-clause-block : goal.drop_line-requires-clause-block
drop_line-requires-clause-block c =
    let v : View = shown c.self.inside in
    let acts = acts-at v c.args.self.now (layers c.self.inside) c.args.own (Drop c.args.victim) c.self.invariant c.self.view_is
    c.requires.permitted c.requires.due in
    leave-inside v (layers c.self.inside) c.args.victim c.self.invariant acts.may.0

pub drop_line-requires-clause-held : goal.drop_line-requires-clause-held
drop_line-requires-clause-held c =
    let v : View = shown c.self.inside in
    let acts = acts-at v c.args.self.now (layers c.self.inside) c.args.own (Drop c.args.victim) c.self.invariant c.self.view_is
    c.requires.permitted c.requires.due in
    leave-held v (layers c.self.inside) c.args.victim false c.self.invariant (acts.may.0, acts.bank) acts.may.1

pub invariant_of-self : goal.invariant_of-self
invariant_of-self c =
    let v : View = shown c.self.inside in
    let lies : ℕ → Option ℕ = way_in c.drop_line.new.self in
    let gave : GaveUp c.self.inside.home c.drop_line.new.self c.args.victim = record {
      bank = c.drop_line.ensures.bank;
      lines = c.drop_line.ensures.lines;
      recorded = c.drop_line.ensures.recorded;
      ways = c.drop_line.ensures.ways;
      free = c.drop_line.ensures.free;
      orders = c.drop_line.ensures.orders;
      memory = c.drop_line.ensures.memory;
    } in
    rw (c.append.ensures.events, c.append.ensures.forgotten, c.end_victim.ensures)
    (drop-keeps v (layers c.self.inside) c.args.own c.args.victim c.append.new.self.room (ways_below lies v.geometry.memory_blocks)
    c.drop_line.new.self c.self.invariant
    (acts-at v c.args.self.now (layers c.self.inside) c.args.own (Drop c.args.victim) c.self.invariant c.self.view_is
    c.requires.permitted c.requires.due)
    gave c.drop_line.ensures.outward (λ b l. below-at lies v.geometry.memory_blocks b l))

pub returns : goal.returns
returns c =
    let v : View = shown c.self.inside in
    let left = c.append.ensures.room in
    let gave : GaveUp c.self.inside.home c.drop_line.new.self c.args.victim = record {
      bank = c.drop_line.ensures.bank;
      lines = c.drop_line.ensures.lines;
      recorded = c.drop_line.ensures.recorded;
      ways = c.drop_line.ensures.ways;
      free = c.drop_line.ensures.free;
      orders = c.drop_line.ensures.orders;
      memory = c.drop_line.ensures.memory;
    } in
    rw (c.append.ensures.forgotten, c.end_victim.ensures)
    (advances-at v c.args.self.now c.args.own (Drop c.args.victim) did_Drop c.append.new.self.events c.append.new.self.room
    (ways_below (way_in c.drop_line.new.self) v.geometry.memory_blocks) c.self.view_is c.requires.due c.append.ensures.events
    (omega (arith, left)) (ways-left c.self.inside.home c.drop_line.new.self v.geometry.memory_blocks c.args.victim gave) refl)
