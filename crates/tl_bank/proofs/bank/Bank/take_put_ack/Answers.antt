use Rattle.std.proofs.Common.{◌≡◌, ℕ, ◌+◌, List, Option, None, slice_index_or, sym, ◌∙◌, ap, subst, arith}
use Rattle.tl_protocol.specs.declared.event.Event.TheVariants.{TakePutAck}
use Rattle.tl_protocol.specs.declared.home.Outward.TheVariants.{PutAck}
use Rattle.tl_bank_home.specs.Homes.{way_in}
use Rattle.tl_registers.specs.Registers.{ended}
use Rattle.tl_bank_spec.specs.HomeCalls.{take_memory_cases}
use Rattle.tl_bank_spec.specs.Refusal.{first_of}
use Rattle.tl_bank_spec.specs.View.{View, end_at}
use Rattle.tl_bank_spec.specs.Own.{way_at, ways_below}
use Rattle.tl_bank.specs.Shown.{shown, layers}
use Rattle.tl_bank_laws.proofs.Serves.{serves-next}
use Rattle.tl_bank_laws.proofs.Slots.{below-same}
use Rattle.tl_bank_laws.proofs.TakesPutAck.{put_ack-keeps}
use Rattle.tl_bank.proofs.bank.Bank.take_put_ack.Goals as goal

pub invariant_of-self : goal.invariant_of-self
invariant_of-self c =
    let v : View = shown c.self.inside in
    let none : first_of (take_memory_cases v c.args.block) ≡ None =
    subst (λ (w : View). first_of (take_memory_cases w c.args.block) ≡ None) (sym (c.self.view_is ∙ c.make_room.ensures.same))
    c.requires.permitted in
    let waits : (end_at v c.args.block).outward ≡ PutAck =
    subst (λ (w : View). (end_at w c.args.block).outward ≡ PutAck) (sym (c.self.view_is ∙ c.make_room.ensures.same)) c.requires.put_ack in
    rw (c.append.ensures.events, c.append.ensures.forgotten, c.end_victim.ensures)
    (put_ack-keeps v (layers c.self.inside) c.take_put_ack.new.self c.args.block c.append.new.self.room c.self.invariant none waits
    (record {
      bank = c.take_put_ack.ensures.bank;
      home = c.take_put_ack.ensures.home;
      outward = c.take_put_ack.ensures.outward;
      memory = c.take_put_ack.ensures.memory;
    }))

pub returns-clause-takes : goal.returns-clause-takes
returns-clause-takes c =
    let v : View = shown c.self.inside in
    let old : View = c.args.self.now in
    let made : v ≡ record old { room = c.make_room.new.self.room } = c.self.view_is ∙ c.make_room.ensures.same in
    let same : ways_below (way_in c.take_put_ack.new.self) v.geometry.memory_blocks ≡ old.ways =
    below-same (way_in c.take_put_ack.new.self) (way_in c.self.inside.home) v.geometry.memory_blocks
    (λ b l. c.take_put_ack.ensures.home.ways.ways b)
    ∙ ap (λ (w : View). w.ways) made in
    let left : c.append.new.self.room + 1 ≡ c.self.inside.log.room = c.append.ensures.room in
    let was : c.self.inside.log.room ≡ c.make_room.new.self.room = ap (λ (w : View). w.room) made in
    record {
      came = c.requires.put_ack;
      serves = rw (c.append.ensures.events, c.append.ensures.forgotten, c.end_victim.ensures)
          (serves-next old v (TakePutAck c.args.block) c.make_room.new.self.room c.append.new.self.room (ended c.args.block v.registers)
          (ended c.args.block old.registers) (ways_below (way_in c.take_put_ack.new.self) v.geometry.memory_blocks) (way_at old) made
          c.make_room.ensures.grows (omega (arith, left, was)) (ap (λ (w : View). ended c.args.block w.registers) made)
          (λ b. ap (λ (ways : List (Option ℕ)). slice_index_or ways b None) same));
    }
