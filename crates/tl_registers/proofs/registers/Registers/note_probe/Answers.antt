use Rattle.std.proofs.Common.{◌≡◌, ◌∙◌, List, length, ap, arith}
use Rattle.std.proofs.lemmas.List.{length-map}
use Rattle.tl_registers.specs.declared.register.Register.{Register}
use Rattle.tl_registers.specs.Registers.{noted, with_probe_of}
use Rattle.tl_registers.proofs.Marks.{marked-noted, refilled}
use Rattle.tl_registers.proofs.registers.Registers.note_probe.Goals as goal

pub invariant_of-self : goal.invariant_of-self
invariant_of-self c =
    let items : List Register = c.self.inside.registers.items in
    let moved : c.note.new.registers ≡ noted c.args.block c.args.client items =
    c.note.ensures ∙ ap (noted c.args.block c.args.client) c.as_mut_slice.ensures.value in
    let long : length c.note.new.registers ≡ length items =
    ap length moved ∙ length-map items (with_probe_of c.args.block c.args.client) in
    rw (refilled items c.note.new.registers long) (
      omega (arith, long, c.self.invariant.0),
      c.self.invariant.1,
      rw moved (marked-noted c.args.block c.args.client items c.self.inside.marks c.self.invariant.2),
    )
