use Rattle.std.proofs.Common.{◌≡◌, ℕ, ◌+◌, List, Option, None, slice_index_or, sym, ◌∙◌, ap, subst, arith}
use Rattle.tl_map.specs.Numbers.{Numbers}
use Rattle.tl_protocol.specs.Sizes.{IsWhole, outward_bytes}
use Rattle.tl_protocol.specs.declared.event.Event.TheVariants.{Serve}
use Rattle.tl_bank_home.specs.Homes.{outward_in, way_in}
use Rattle.tl_bank_spec.specs.Effects.{MemoryReplies}
use Rattle.tl_bank_spec.specs.HomeCalls.{serve_memory_cases}
use Rattle.tl_bank_spec.specs.Refusal.{first_of}
use Rattle.tl_bank_spec.specs.View.{View}
use Rattle.tl_bank_spec.specs.Own.{way_at, ways_below}
use Rattle.tl_bank.specs.Shown.{shown, layers}
use Rattle.tl_bank_laws.proofs.Serves.{serves-next}
use Rattle.tl_bank_laws.proofs.ServesMemory.{serve-allowed, serve-keeps, serve-reply, serve-whole}
use Rattle.tl_bank_laws.proofs.Slots.{below-same}
use Rattle.tl_bank.proofs.bank.Bank.serve_memory.Goals as goal

pub serve-reply-requires-clause-whole : goal.serve-reply-requires-clause-whole
serve-reply-requires-clause-whole c =
    let v : View = shown c.self.inside in
    let none : first_of (serve_memory_cases v c.args.block) ≡ None =
    subst (λ (w : View). first_of (serve_memory_cases w c.args.block) ≡ None) (sym (c.self.view_is ∙ c.make_room.ensures.same))
    (c.in_ok-check_serve.ensures.permitted) in
    subst (λ (g : Numbers). IsWhole g.block_bytes (outward_bytes (outward_in c.self.inside.home c.args.block)))
    (sym c.self.invariant.home_geometry) (serve-whole v (layers c.self.inside) c.args.block c.self.invariant none)

pub serve-reply-requires-clause-own : goal.serve-reply-requires-clause-own
serve-reply-requires-clause-own c =
    let v : View = shown c.self.inside in
    let none : first_of (serve_memory_cases v c.args.block) ≡ None =
    subst (λ (w : View). first_of (serve_memory_cases w c.args.block) ≡ None) (sym (c.self.view_is ∙ c.make_room.ensures.same))
    (c.in_ok-check_serve.ensures.permitted) in
    rw (c.self.invariant.home_geometry, c.self.invariant.home_bank) (serve-allowed v c.args.block none).own.1

pub invariant_of-self : goal.invariant_of-self
invariant_of-self c =
    let v : View = shown c.self.inside in
    let none : first_of (serve_memory_cases v c.args.block) ≡ None =
    subst (λ (w : View). first_of (serve_memory_cases w c.args.block) ≡ None) (sym (c.self.view_is ∙ c.make_room.ensures.same))
    (c.in_ok-check_serve.ensures.permitted) in
    rw (c.append.ensures.events, c.append.ensures.forgotten)
    (serve-keeps v (layers c.self.inside) c.serve-reply.new.self c.args.block c.append.new.self.room c.self.invariant none
    (record {
      bank = c.serve-reply.ensures.bank;
      home = c.serve-reply.ensures.home;
      outward = c.serve-reply.ensures.outward;
      memory = c.serve-reply.ensures.memory;
    }))

pub returns-clause-serves : goal.returns-clause-serves
returns-clause-serves c =
    let v : View = shown c.self.inside in
    let old : View = c.args.self.now in
    let made : v ≡ record old { room = c.make_room.new.self.room } = c.self.view_is ∙ c.make_room.ensures.same in
    let same : ways_below (way_in c.serve-reply.new.self) v.geometry.memory_blocks ≡ old.ways =
    below-same (way_in c.serve-reply.new.self) (way_in c.self.inside.home) v.geometry.memory_blocks (λ b l. c.serve-reply.ensures.home.ways.ways b)
    ∙ ap (λ (w : View). w.ways) made in
    let left : c.append.new.self.room + 1 ≡ c.self.inside.log.room = c.append.ensures.room in
    let was : c.self.inside.log.room ≡ c.make_room.new.self.room = ap (λ (w : View). w.room) made in
    rw (c.append.ensures.events, c.append.ensures.forgotten)
    (serves-next old v (Serve c.args.block) c.make_room.new.self.room c.append.new.self.room v.registers old.registers
    (ways_below (way_in c.serve-reply.new.self) v.geometry.memory_blocks) (way_at old) made c.make_room.ensures.grows
    (omega (arith, left, was)) (ap (λ (w : View). w.registers) made)
    (λ b. ap (λ (ways : List (Option ℕ)). slice_index_or ways b None) same))

pub returns-clause-reply : goal.returns-clause-reply
returns-clause-reply c =
    let v : View = shown c.self.inside in
    let made : v ≡ record c.args.self.now { room = c.make_room.new.self.room } = c.self.view_is ∙ c.make_room.ensures.same in
    let none : first_of (serve_memory_cases v c.args.block) ≡ None =
    subst (λ (w : View). first_of (serve_memory_cases w c.args.block) ≡ None) (sym made)
    (c.in_ok-check_serve.ensures.permitted) in
    let answer = c.serve-reply.ensures.reply in
    let replies : MemoryReplies v c.args.block c.serve-reply.result =
    serve-reply v (layers c.self.inside) c.args.block answer.0 c.serve-reply.result c.self.invariant none
    (answer.1 ∙ ap (λ (g : Numbers). g.block_bytes) c.self.invariant.home_geometry) answer.2 in
    let now : MemoryReplies (record c.args.self.now { room = c.make_room.new.self.room }) c.args.block c.serve-reply.result =
    subst (λ (w : View). MemoryReplies w c.args.block c.serve-reply.result) made replies in
    record { size = now.size; is_size = now.is_size; answers = now.answers }
