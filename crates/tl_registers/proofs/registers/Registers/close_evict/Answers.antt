use Rattle.std.proofs.Common.{◌==◌, ◌&&◌, Bool, List, not, ap, rules, arith, length, ◌≤◌}
use Rattle.arrayvec.proofs.ArrayVecLemmas.{filter-from_retain}
use Rattle.tl_registers.specs.Registers.{is_evict}
use Rattle.tl_registers.specs.declared.register.Register.{Register}
use Rattle.tl_registers.proofs.Marks.{fewer-kept, marked-filter}
use Rattle.tl_registers.proofs.registers.Registers.close_evict.Goals as goal

pub returns : goal.returns
returns c =
    let stays : Register → Bool = λ r. not (is_evict r.task && (r.own == c.args.block)) in
    let e = filter-from_retain _ stays _ (λ x b f' y called. search rules) _ _ c.retain.ensures.filtered in
    rw (← c.self.view_is) (ap (λ (xs : List Register). record { limit = c.self.inside.limit; open_registers = xs }) e)

pub invariant_of-self : goal.invariant_of-self
invariant_of-self c =
    let items : List Register = c.self.inside.registers.items in
    let stays : Register → Bool = λ r. not (is_evict r.task && (r.own == c.args.block)) in
    let e = filter-from_retain _ stays _ (λ x b f' y called. search rules) _ _ c.retain.ensures.filtered in
    let few : length c.retain.new.self.items ≤ length items = rw e (fewer-kept stays items) in (
      omega (arith, few, c.self.invariant.0),
      c.self.invariant.1,
      rw e (marked-filter stays items c.self.inside.marks c.self.invariant.2),
    )
