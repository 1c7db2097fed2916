use Rattle.std.proofs.Common.{subst, rules}
use Rattle.std.specs.Prelude.{IfSome}
use Rattle.tl_registers.specs.Register.{IsKnown}
use Rattle.tl_registers.specs.Registers.{register_of}
use Rattle.tl_bank_spec.specs.View.{View}
use Rattle.tl_bank.specs.Shown.{shown, layers}
use Rattle.tl_bank_laws.proofs.Sights.{known-of}
use Rattle.tl_bank.proofs.bank.Bank.next_due.Goals as goal

pub next_action-requires-clause-known : goal.next_action-requires-clause-known
next_action-requires-clause-known c =
    let v : View = shown c.self.inside in
    let Known : View → Type 0 = λ w. IfSome (register_of c.args.block v.registers) (IsKnown w.geometry.memory_blocks) in
    subst Known c.self.view_is (known-of v (layers c.self.inside) c.args.block c.self.invariant)

pub returns-clause-refused : goal.returns-clause-refused
returns-clause-refused c = tt

pub returns-clause-due : goal.returns-clause-due
returns-clause-due c = search rules
