use Rattle.std.proofs.Common.{◌≡◌, ◌<◌, ℕ, false}
use Rattle.tlwire_answer.specs.Named.{is_told}
use Rattle.tlwire_answer.proofs.order.is_any_told.Given as goal

abbrev pub invariant-loop-number : goal.invariant-loop-number
invariant-loop-number l = (client : ℕ) → client < l.number → is_told l.messages.setting.premises client ≡ false
