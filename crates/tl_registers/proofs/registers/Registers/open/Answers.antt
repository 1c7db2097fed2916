use Rattle.std.proofs.Common.{◌<◌, ◌∷◌, List, [], length, arith, length-append}
use Rattle.tl_registers.specs.declared.register.Register.{Register}
use Rattle.tl_registers.proofs.Marks.{marked-added}
use Rattle.tl_registers.proofs.registers.Registers.open.Goals as goal

pub invariant_of-self : goal.invariant_of-self
invariant_of-self c =
    let items : List Register = c.self.inside.registers.items in
    let register : Register = c.open-register.result in
    let room : length items < c.self.inside.limit = rw (← c.self.view_is) at c.requires in
    rw c.push.ensures.items (
      omega (arith, length-append items (register ∷ []), room),
      c.self.invariant.1,
      marked-added items register c.self.inside.marks c.marks.result c.self.invariant.2 c.marks.ensures,
    )
