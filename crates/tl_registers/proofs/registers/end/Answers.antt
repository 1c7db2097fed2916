use Rattle.std.proofs.Common.{ap, ◌∙◌, arith}
use Rattle.std.specs.Prelude.{slice_set}
use Rattle.std.proofs.lemmas.List.Edits.{map_over_more}
use Rattle.std.proofs.lemmas.Grind.{common_steps}
use Rattle.tl_registers.specs.Registers.{without_victim}
use Rattle.tl_registers.proofs.registers.end.Goals as goal

pub loop-register-preserved : goal.loop-register-preserved
loop-register-preserved c =
    let f = without_victim c.args.victim in
    ap (λ r. slice_set c.loop-register.registers c.loop-register.register-index r) c.end_victim.ensures
    ∙ map_over_more f c.args.registers.now c.loop-register.registers c.loop-register.register-index _ (omega arith) c.loop-register.invariant (cc)

pub returns : goal.returns
returns c = grind (arith, common_steps)
