use Rattle.std.proofs.Common.{◌≡◌, true}
use Rattle.tl_protocol.specs.Protocol.{is_alone}
use Rattle.tl_bank_spec.specs.View.{end_at}
use Rattle.tl_bank.proofs.bank.Bank.is_alone.Given as goal

abbrev pub invariant-loop-number : goal.invariant-loop-number
invariant-loop-number l = is_alone l.number l.client (end_at l.self l.fn.block).client ≡ true
