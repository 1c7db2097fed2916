use Rattle.std.proofs.Common.{◌≡◌, ℕ, ◌+◌, ◌==◌, Option, Some, None, if◌then◌else◌, sym, ◌∙◌, ap, subst, arith}
use Rattle.tl_protocol.specs.Home.{IsData}
use Rattle.tl_protocol.specs.declared.event.Event.TheVariants.{TakeData}
use Rattle.tl_bank_home.specs.Homes.{HomeState, way_in}
use Rattle.tl_registers.specs.declared.register.Register.{Register}
use Rattle.tl_bank_spec.specs.HomeCalls.{take_memory_cases}
use Rattle.tl_bank_spec.specs.Refusal.{first_of}
use Rattle.tl_bank_spec.specs.View.{View, end_at}
use Rattle.tl_bank_spec.specs.Own.{way_at}
use Rattle.tl_bank.specs.Shown.{shown, layers}
use Rattle.tl_bank_laws.specs.Memory.{RegisterHolds}
use Rattle.tl_bank_laws.proofs.Moves.{list-moves}
use Rattle.tl_bank_laws.proofs.Serves.{serves-next}
use Rattle.tl_bank_laws.proofs.TakesData.{data-keeps, data-place, home_ways}
use Rattle.tl_bank_laws.proofs.TakesPutAck.{take-own}
use Rattle.tl_bank.proofs.bank.Bank.take_data.Goals as goal

-- what taking the bytes of a block into a way shows of the bank before it
record Takes (v : View) (block way : ℕ) : Type 0 where
  pub permitted : first_of (take_memory_cases v block) ≡ None
  pub came : IsData (end_at v block).outward
  pub held : RegisterHolds v block way

pub take_data-requires-clause-away : goal.take_data-requires-clause-away
take_data-requires-clause-away c =
    let v : View = shown c.self.inside in
    let takes : Takes v c.args.block c.way_of_data-way.result =
    subst (λ (w : View). Takes w c.args.block c.way_of_data-way.result) (sym (c.self.view_is ∙ c.make_room.ensures.same))
    (record { permitted = c.requires.permitted; came = c.requires.data; held = c.way_of_data-way.ensures }) in
    (data-place v (layers c.self.inside) c.args.block c.way_of_data-way.result c.self.invariant takes.permitted takes.came takes.held).away

pub take_data-requires-clause-way : goal.take_data-requires-clause-way
take_data-requires-clause-way c =
    let v : View = shown c.self.inside in
    let takes : Takes v c.args.block c.way_of_data-way.result =
    subst (λ (w : View). Takes w c.args.block c.way_of_data-way.result) (sym (c.self.view_is ∙ c.make_room.ensures.same))
    (record { permitted = c.requires.permitted; came = c.requires.data; held = c.way_of_data-way.ensures }) in
    (data-place v (layers c.self.inside) c.args.block c.way_of_data-way.result c.self.invariant takes.permitted takes.came takes.held).way

pub take_data-requires-clause-free : goal.take_data-requires-clause-free
take_data-requires-clause-free c =
    let v : View = shown c.self.inside in
    let takes : Takes v c.args.block c.way_of_data-way.result =
    subst (λ (w : View). Takes w c.args.block c.way_of_data-way.result) (sym (c.self.view_is ∙ c.make_room.ensures.same))
    (record { permitted = c.requires.permitted; came = c.requires.data; held = c.way_of_data-way.ensures }) in
    (data-place v (layers c.self.inside) c.args.block c.way_of_data-way.result c.self.invariant takes.permitted takes.came takes.held).free

pub invariant_of-self : goal.invariant_of-self
invariant_of-self c =
    let v : View = shown c.self.inside in
    let takes : Takes v c.args.block c.way_of_data-way.result =
    subst (λ (w : View). Takes w c.args.block c.way_of_data-way.result) (sym (c.self.view_is ∙ c.make_room.ensures.same))
    (record { permitted = c.requires.permitted; came = c.requires.data; held = c.way_of_data-way.ensures }) in
    rw (c.append.ensures.events, c.append.ensures.forgotten)
    (data-keeps v (layers c.self.inside) c.take_data.new.self c.args.block c.way_of_data-way.result c.append.new.self.room c.self.invariant
    takes.permitted takes.came takes.held
    (record {
      bank = c.take_data.ensures.bank;
      lines = c.take_data.ensures.lines;
      recorded = c.take_data.ensures.recorded;
      ways = c.take_data.ensures.ways;
      free = c.take_data.ensures.free;
      orders = c.take_data.ensures.orders;
      outward = c.take_data.ensures.outward;
      memory = c.take_data.ensures.memory;
    }))

pub returns-clause-takes : goal.returns-clause-takes
returns-clause-takes c =
    let v : View = shown c.self.inside in
    let old : View = c.args.self.now in
    let block : ℕ = c.args.block in
    let way : ℕ = c.way_of_data-way.result in
    let home : HomeState = c.take_data.new.self in
    let made : v ≡ record old { room = c.make_room.new.self.room } = c.self.view_is ∙ c.make_room.ensures.same in
    let held : RegisterHolds old block way = c.way_of_data-way.ensures in
    let register : Register = held.0 in
    let lies : Some register.way.way ≡ Some way = ap (λ (x : ℕ). Some x) held.2 in
    let takes : Takes v block way =
    subst (λ (w : View). Takes w block way) (sym made)
    (record { permitted = c.requires.permitted; came = c.requires.data; held = held }) in
    let left : c.append.new.self.room + 1 ≡ c.self.inside.log.room = c.append.ensures.room in
    let was : c.self.inside.log.room ≡ c.make_room.new.self.room = ap (λ (w : View). w.room) made in
    record {
      came = c.requires.data;
      register = register;
      is_register = held.1;
      serves = rw (c.append.ensures.events, c.append.ensures.forgotten)
          (serves-next old v (TakeData block) c.make_room.new.self.room c.append.new.self.room v.registers old.registers (home_ways v home)
          (λ b. if b == block then Some register.way.way else way_at old b) made c.make_room.ensures.grows
          (omega (arith, left, was)) (ap (λ (w : View). w.registers) made)
          (λ b.
          list-moves (way_in c.self.inside.home) (way_in home) v.geometry.memory_blocks block (Some way) (take-own v block takes.permitted).0 c.take_data.ensures.ways b
          ∙ ap (λ (w : View). if b == block then Some way else way_at w b) made
          ∙ ap (λ (at : Option ℕ). if b == block then at else way_at old b) (sym lies)));
    }
