use Rattle.std.proofs.Common.{ap, ◌∙◌, arith}
use Rattle.std.specs.Prelude.{slice_set}
use Rattle.std.proofs.lemmas.List.Edits.{map_over_more}
use Rattle.std.proofs.lemmas.Grind.{common_steps}
use Rattle.tl_registers.specs.Registers.{with_probe_of}
use Rattle.tl_registers.proofs.registers.note.Goals as goal

pub loop-register-preserved : goal.loop-register-preserved
loop-register-preserved c =
    let f = with_probe_of c.args.block c.args.client in
    ap (λ r. slice_set c.loop-register.registers c.loop-register.register-index r) c.note_probe.ensures
    ∙ map_over_more f c.args.registers.now c.loop-register.registers c.loop-register.register-index _ (omega arith) c.loop-register.invariant (cc)

pub returns : goal.returns
returns c = grind (arith, common_steps)
