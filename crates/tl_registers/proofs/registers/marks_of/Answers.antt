use Rattle.std.proofs.Common.{◌≡◌, true, sym, subst}
use Rattle.tl_registers.specs.declared.register.Register.{Register}
use Rattle.tl_registers.specs.Register.{works_on}
use Rattle.tl_registers.proofs.Marks.{marked-more}
use Rattle.tl_registers.proofs.registers.marks_of.Goals as goal

pub loop-register-preserved : goal.loop-register-preserved
loop-register-preserved c =
    let more = c.marks-marks.result in
    marked-more c.args.registers.now c.loop-register.register-index c.loop-register.marks more c.register-item.result
    c.loop-register-test.true c.loop-register.invariant
    (λ block works.
    c.marks-marks.ensures block
    (subst (λ (r : Register). works_on r block ≡ true) (sym c.register-item.is) works))
