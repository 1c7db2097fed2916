use Rattle.std.proofs.Common.{rules}
use Rattle.tl_bank.proofs.bank.Bank.check_answer.Goals as goal

pub returns-clause-finds : goal.returns-clause-finds
returns-clause-finds c = record {
  cap = c.probe_cap-cap.result;
  first = search rules;
  copy_is = search rules;
  wait_is = search rules;
  before_is = search rules;
  answer_is = search rules;
}
