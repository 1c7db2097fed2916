use Rattle.std.proofs.Common.{rules, ◌≡◌, ℕ, ◌-◌, ◌^◌, ◌<◌, Bool, List, Option, None, length, slice_index_or, sym, ◌∙◌, ap, subst, arith, ◌+◌}
use Rattle.tl_types.specs.declared.channel.Channel.TheVariants.{C}
use Rattle.tl_types.specs.declared.permission.Perm.{Perm}
use Rattle.tl_map.specs.Numbers.{Numbers}
use Rattle.tl_protocol.specs.declared.event.Event.TheVariants.{TakeC}
use Rattle.tl_bank_home.specs.Homes.{way_in}
use Rattle.tl_bank_spec.specs.Cases.{block_named}
use Rattle.tl_bank_spec.specs.HomeCalls.{take_c_cases}
use Rattle.tl_bank_spec.specs.Refusal.{first_of}
use Rattle.tl_bank_spec.specs.View.{View, shape_of}
use Rattle.tl_bank_spec.specs.Own.{way_at, ways_below}
use Rattle.tl_protocol_lanes.specs.Lawful.{Lawful}
use Rattle.tl_bank_spec.proofs.Logged.{extends-serves}
use Rattle.tl_bank_spec.proofs.Sent.{sends-if}
use Rattle.tl_bank.specs.Shown.{shown, layers}
use Rattle.tl_bank_laws.specs.Given.{brought_by}
use Rattle.tl_bank_laws.proofs.Serves.{serves-next}
use Rattle.tl_bank_laws.proofs.Slots.{below-at, below-same}
use Rattle.tl_bank_laws.proofs.TakeC.{Comes, Passed, Received, answer-room, take_c-branch, take_c-comes, take_c-held, take_c-keeps}
use Rattle.tl_bank.proofs.bank.Bank.take_c.Goals as goal

pub receive-requires-clause-block : goal.receive-requires-clause-block
receive-requires-clause-block c =
    let v : View = shown c.self.inside in
    let none : first_of (take_c_cases v c.args.ticket) ≡ None =
    subst (λ (w : View). first_of (take_c_cases w c.args.ticket) ≡ None) (sym (c.self.view_is ∙ c.make_room.ensures.same))
    (c.in_ok-check_c.ensures.permitted) in
    let comes : Comes v c.args.ticket c.take-message.result =
    take_c-comes v (layers c.self.inside) c.args.ticket c.take-message.result c.take-message.ensures.message.0 c.self.invariant none
    c.take-message.ensures.message.1 in
    subst (λ (g : Numbers). c.take-message.result.block < g.memory_blocks) (sym c.self.invariant.home_geometry) comes.own.0

pub receive-requires-clause-held : goal.receive-requires-clause-held
receive-requires-clause-held c =
    let v : View = shown c.self.inside in
    let none : first_of (take_c_cases v c.args.ticket) ≡ None =
    subst (λ (w : View). first_of (take_c_cases w c.args.ticket) ≡ None) (sym (c.self.view_is ∙ c.make_room.ensures.same))
    (c.in_ok-check_c.ensures.permitted) in
    let comes : Comes v c.args.ticket c.take-message.result =
    take_c-comes v (layers c.self.inside) c.args.ticket c.take-message.result c.take-message.ensures.message.0 c.self.invariant none
    c.take-message.ensures.message.1 in
    take_c-held v (layers c.self.inside) c.args.ticket c.take-message.result c.self.invariant comes

pub receive-requires-clause-known : goal.receive-requires-clause-known
receive-requires-clause-known c =
    let v : View = shown c.self.inside in
    let none : first_of (take_c_cases v c.args.ticket) ≡ None =
    subst (λ (w : View). first_of (take_c_cases w c.args.ticket) ≡ None) (sym (c.self.view_is ∙ c.make_room.ensures.same))
    (c.in_ok-check_c.ensures.permitted) in
    let comes : Comes v c.args.ticket c.take-message.result =
    take_c-comes v (layers c.self.inside) c.args.ticket c.take-message.result c.take-message.ensures.message.0 c.self.invariant none
    c.take-message.ensures.message.1 in
    subst (λ (g : Numbers). c.args.ticket.client < g.clients) (sym c.self.invariant.home_geometry) comes.client

pub receive-requires-clause-branch : goal.receive-requires-clause-branch
receive-requires-clause-branch c =
    let v : View = shown c.self.inside in
    let none : first_of (take_c_cases v c.args.ticket) ≡ None =
    subst (λ (w : View). first_of (take_c_cases w c.args.ticket) ≡ None) (sym (c.self.view_is ∙ c.make_room.ensures.same))
    (c.in_ok-check_c.ensures.permitted) in
    let comes : Comes v c.args.ticket c.take-message.result =
    take_c-comes v (layers c.self.inside) c.args.ticket c.take-message.result c.take-message.ensures.message.0 c.self.invariant none
    c.take-message.ensures.message.1 in
    λ branch. take_c-branch v (layers c.self.inside) c.args.ticket c.take-message.result c.self.invariant comes
    (sym c.left_by-to.ensures ∙ branch)

pub answer-sent-requires : goal.answer-sent-requires
answer-sent-requires c =
    let v : View = shown c.self.inside in
    let made : v ≡ record c.args.self.now { room = c.make_room.new.self.room } = c.self.view_is ∙ c.make_room.ensures.same in
    let none : first_of (take_c_cases v c.args.ticket) ≡ None =
    subst (λ (w : View). first_of (take_c_cases w c.args.ticket) ≡ None) (sym made) (c.in_ok-check_c.ensures.permitted) in
    let comes : Comes v c.args.ticket c.take-message.result =
    take_c-comes v (layers c.self.inside) c.args.ticket c.take-message.result c.take-message.ensures.message.0 c.self.invariant none
    c.take-message.ensures.message.1 in
    let small : length v.log < 2 ^ 64 - 1 =
    subst (λ (w : View). length w.log < 2 ^ 64 - 1) (sym c.self.view_is) c.make_room.ensures.small in
    λ is. answer-room v (layers c.self.inside) c.args.ticket c.take-message.result c.take-message.new.links c.self.invariant none comes
    c.take-message.ensures.same c.take-message.ensures.after small (sym c.is_release-is_release.ensures ∙ is)

pub invariant_of-self : goal.invariant_of-self
invariant_of-self c =
    let v : View = shown c.self.inside in
    let none : first_of (take_c_cases v c.args.ticket) ≡ None =
    subst (λ (w : View). first_of (take_c_cases w c.args.ticket) ≡ None) (sym (c.self.view_is ∙ c.make_room.ensures.same))
    (c.in_ok-check_c.ensures.permitted) in
    let comes : Comes v c.args.ticket c.take-message.result =
    take_c-comes v (layers c.self.inside) c.args.ticket c.take-message.result c.take-message.ensures.message.0 c.self.invariant none
    c.take-message.ensures.message.1 in
    let passed : Passed c.self.inside.links c.take-message.new.links c.answer-sent.new.links c.args.ticket c.take-message.result.block
    c.is_release-is_release.result =
    record {
      first = c.take-message.ensures.same;
      took = c.take-message.ensures.after;
      second = c.answer-sent.ensures.same;
      answered = c.answer-sent.ensures.after;
    } in
    let received : Received c.self.inside.home c.receive.new.self c.args.ticket.client c.take-message.result.block
    c.left_by-to.result c.brought_by.result =
    record {
      bank = c.receive.ensures.bank;
      lines = c.receive.ensures.lines;
      recorded = c.receive.ensures.recorded;
      ways = c.receive.ensures.ways;
      outward = c.receive.ensures.outward;
      memory = c.receive.ensures.memory;
    } in
    rw (c.append.ensures.events, c.append.ensures.forgotten)
    (take_c-keeps v (layers c.self.inside) c.args.ticket c.take-message.result c.take-message.new.links c.answer-sent.new.links
    c.receive.new.self c.append.new.self.room (ways_below (way_in c.receive.new.self) v.geometry.memory_blocks) c.self.invariant none comes
    (subst (λ (r : Bool). Passed c.self.inside.links c.take-message.new.links c.answer-sent.new.links c.args.ticket
    c.take-message.result.block r) c.is_release-is_release.ensures passed)
    (subst (λ (p : Perm). Received c.self.inside.home c.receive.new.self c.args.ticket.client c.take-message.result.block p
    (brought_by c.take-message.result.body)) c.left_by-to.ensures
    (subst (λ (b : Option (List ℕ)). Received c.self.inside.home c.receive.new.self c.args.ticket.client c.take-message.result.block
    c.left_by-to.result b) c.brought_by.ensures received))
    (λ b l. below-at (way_in c.receive.new.self) v.geometry.memory_blocks b l))

pub returns-clause-serves : goal.returns-clause-serves
returns-clause-serves c =
    let v : View = shown c.self.inside in
    let old : View = c.args.self.now in
    let made : v ≡ record old { room = c.make_room.new.self.room } = c.self.view_is ∙ c.make_room.ensures.same in
    let none : first_of (take_c_cases v c.args.ticket) ≡ None =
    subst (λ (w : View). first_of (take_c_cases w c.args.ticket) ≡ None) (sym made) (c.in_ok-check_c.ensures.permitted) in
    let comes : Comes v c.args.ticket c.take-message.result =
    take_c-comes v (layers c.self.inside) c.args.ticket c.take-message.result c.take-message.ensures.message.0 c.self.invariant none
    c.take-message.ensures.message.1 in
    let same : ways_below (way_in c.receive.new.self) v.geometry.memory_blocks ≡ old.ways =
    below-same (way_in c.receive.new.self) (way_in c.self.inside.home) v.geometry.memory_blocks (λ b l. (c.receive.ensures.ways).ways b)
    ∙ ap (λ (w : View). w.ways) made in
    let block_is : c.take-message.result.block ≡ block_named old c.args.ticket C =
    comes.block ∙ ap (λ (w : View). block_named w c.args.ticket C) made in
    let left : c.append.new.self.room + 1 ≡ c.self.inside.log.room = c.append.ensures.room in
    let was : c.self.inside.log.room ≡ c.make_room.new.self.room = ap (λ (w : View). w.room) made in
    rw (c.append.ensures.events, c.append.ensures.forgotten, ← block_is)
    (serves-next old v (TakeC c.args.ticket.client c.take-message.result.block) c.make_room.new.self.room c.append.new.self.room v.registers
    old.registers (ways_below (way_in c.receive.new.self) v.geometry.memory_blocks) (way_at old) made c.make_room.ensures.grows
    (omega (arith, left, was)) (ap (λ (w : View). w.registers) made)
    (λ b. ap (λ (ways : List (Option ℕ)). slice_index_or ways b None) same))

pub returns-clause-answer : goal.returns-clause-answer
returns-clause-answer c = search rules

pub returns-clause-sends : goal.returns-clause-sends
returns-clause-sends c =
    let lawful : Lawful (shape_of c.args.self.now.geometry) c.args.self.now.image c.args.self.now.log =
    subst (λ (w : View). Lawful (shape_of w.geometry) w.image w.log) (c.self.view_is ∙ c.make_room.ensures.same) c.self.invariant.lawful in
    sends-if _ _ c.args.ticket _ (returns-clause-answer c) lawful (extends-serves _ _ _ _ _ (returns-clause-serves c)) (invariant_of-self c).lawful.run
