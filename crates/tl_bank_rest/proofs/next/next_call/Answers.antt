use Rattle.std.proofs.Common.{List, slice_get, sym, ◌∙◌, ap}
use Rattle.std.specs.Option.{option_copied}
use Rattle.tl_registers.specs.declared.register.Register.{Register}
use Rattle.tl_bank_rest.proofs.Quiet.{none-open, none-taken, oldest-is, taken-busy}
use Rattle.tl_bank_rest.proofs.next.next_call.Goals as goal

pub returns-in-Some-clause-quiet : goal.returns-in-Some-clause-quiet
returns-in-Some-clause-quiet c = (λ e. cc, λ quiet. absurd (taken-busy c.args.bank.now c.in-Some.call c.in-Some.ensures.taken quiet))

pub next_of_register-requires-clause-oldest : goal.next_of_register-requires-clause-oldest
next_of_register-requires-clause-oldest c =
    oldest-is c.args.bank.now.registers c.in-Some-first.register.now
    (ap (λ (xs : List Register). slice_get xs 0) (sym c.registers.ensures.is) ∙ sym c.in-Some-first.ensures.value)

pub returns-in-Some-first-clause-quiet : goal.returns-in-Some-first-clause-quiet
returns-in-Some-first-clause-quiet c =
    (λ e. cc, λ quiet. absurd (taken-busy c.args.bank.now c.next_of_register.result c.next_of_register.ensures quiet))

pub next_acquire-requires-clause-closed : goal.next_acquire-requires-clause-closed
next_acquire-requires-clause-closed c =
    none-open c.args.bank.now.registers
    (ap (λ (xs : List Register). slice_get xs 0) (sym c.registers.ensures.is)
    ∙ (sym c.first.ensures.value ∙ ap option_copied c.in_default-first.is))

pub returns-clause-quiet : goal.returns-clause-quiet
returns-clause-quiet c =
    (c.next_acquire.ensures.quiet, λ quiet. none-taken c.args.bank.now c.next_acquire.result c.next_acquire.ensures.taken quiet)
