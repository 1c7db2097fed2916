use Rattle.tl_registers.proofs.Agreement.{agree-at-reset, every-run-is-steady, events-leave-registers}
use Rattle.tl_registers.proofs.Closing.{granting-keeps-agreement, putting-keeps-agreement, dropping-keeps-agreement, ending-keeps-agreement, closing-keeps-agreement}
use Rattle.tl_registers.proofs.Opening.{accepting-keeps-agreement, evicting-keeps-agreement}
use Rattle.tl_registers.proofs.Probing.{probing-keeps-agreement, fetching-keeps-agreement}
use Rattle.tl_registers.proofs.laws.registers_agree.Goals as goal

pub returns : goal.returns
returns c = record {
  at_reset = agree-at-reset;
  steady = every-run-is-steady;
  events = events-leave-registers;
  probe = probing-keeps-agreement;
  get = fetching-keeps-agreement;
  grant = granting-keeps-agreement;
  put = putting-keeps-agreement;
  drop = dropping-keeps-agreement;
  put_ack = ending-keeps-agreement;
  accept = accepting-keeps-agreement;
  evict = evicting-keeps-agreement;
  close = closing-keeps-agreement;
}
