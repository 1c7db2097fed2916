use Rattle.std.proofs.Common.{◌≡◌, ◌==◌, Bool, List, not, ap, rules, arith, length, ◌≤◌, subst}
use Rattle.arrayvec.proofs.ArrayVecLemmas.{filter-from_retain}
use Rattle.tl_registers.specs.declared.register.Register.{Register}
use Rattle.tl_registers.specs.Marks.{IsMarked}
use Rattle.tl_registers.proofs.Marks.{fewer-kept}
use Rattle.tl_registers.proofs.registers.Registers.close.Goals as goal

pub returns : goal.returns
returns c =
    let stays : Register → Bool = λ r. not (r.own == c.args.block) in
    let e = filter-from_retain _ stays _ (λ x b f' y called. search rules) _ _ c.retain.ensures.filtered in
    rw (← c.self.view_is) (ap (λ (xs : List Register). record { limit = c.self.inside.limit; open_registers = xs }) e)

pub invariant_of-self : goal.invariant_of-self
invariant_of-self c =
    let stays : Register → Bool = λ r. not (r.own == c.args.block) in
    let e = filter-from_retain _ stays _ (λ x b f' y called. search rules) _ _ c.retain.ensures.filtered in
    let few : length c.retain.new.self.items ≤ length c.self.inside.registers.items =
    rw e (fewer-kept stays c.self.inside.registers.items) in (
      omega (arith, few, c.self.invariant.0),
      c.self.invariant.1,
      subst (λ (xs : List Register). IsMarked xs c.marks_of-self-inside.result) c.as_slice.ensures.value c.marks_of-self-inside.ensures,
    )
