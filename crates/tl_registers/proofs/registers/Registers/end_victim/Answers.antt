use Rattle.std.proofs.Common.{◌≡◌, ◌∙◌, List, length, map, ap, arith}
use Rattle.std.proofs.lemmas.List.{length-map}
use Rattle.tl_registers.specs.declared.register.Register.{Register}
use Rattle.tl_registers.specs.Registers.{without_victim}
use Rattle.tl_registers.proofs.Marks.{marked-ended, refilled}
use Rattle.tl_registers.proofs.registers.Registers.end_victim.Goals as goal

pub invariant_of-self : goal.invariant_of-self
invariant_of-self c =
    let items : List Register = c.self.inside.registers.items in
    let moved : c.end.new.registers ≡ map (without_victim c.args.victim) items =
    c.end.ensures ∙ ap (map (without_victim c.args.victim)) c.as_mut_slice.ensures.value in
    let long : length c.end.new.registers ≡ length items =
    ap length moved ∙ length-map items (without_victim c.args.victim) in
    rw (refilled items c.end.new.registers long) (
      omega (arith, long, c.self.invariant.0),
      c.self.invariant.1,
      rw moved (marked-ended c.args.victim items c.self.inside.marks c.self.invariant.2),
    )
