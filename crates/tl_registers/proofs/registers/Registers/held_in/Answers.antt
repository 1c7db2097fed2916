use Rattle.std.proofs.Common.{length, take, ap, arith, lit<, length-take-le}
use Rattle.std.proofs.lemmas.Grind.{common_steps}
use Rattle.tl_registers.proofs.Held.{held_in-more, length-held_in}
use Rattle.tl_registers.proofs.registers.Registers.held_in.Goals as goal
use Rattle.tl_registers.proofs.registers.Registers.held_in.Goals.{then-register-set, else-register-set}

pub push-requires : goal.push-requires
push-requires c =
    let i = c.loop-register.register-index in
    let xs = c.as_slice-register-items.result.now in
    let is = ap length c.loop-register.invariant in
    let few = length-held_in c.args.set (take i xs) in
    let taken = length-take-le i xs c.loop-register.auto.register-index-end in
    (lit< tt, omega (arith, is, few, taken, c.as_slice-register-items.ensures.few))

pub loop-register-preserved : goal.loop-register-preserved
loop-register-preserved c =
    let more = held_in-more c.args.set c.as_slice-register-items.result.now c.loop-register.register-index c.register-item.result c.loop-register-test.true in
    elim c.if-register-set.branch [
      | then-register-set w ↦ rw w.held-is (grind (arith, common_steps, more))
      | else-register-set w ↦ rw w.held-is (grind (arith, common_steps, more))
    ]
