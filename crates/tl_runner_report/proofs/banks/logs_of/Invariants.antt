use Rattle.std.proofs.Common.{◌≡◌, take}
use Rattle.std.specs.List.{AllWithin}
use Rattle.arrayvec.specs.ArrayVec.{array_vec_len}
use Rattle.tl_rules.specs.Certified.{events_of}
use Rattle.tl_runner_report.specs.Banks.{HasRun, logs_in}
use Rattle.tl_runner_report.proofs.banks.logs_of.Given as goal

abbrev pub invariant-loop-bank : goal.invariant-loop-bank
invariant-loop-bank l =
    (events_of l.logs.items ≡ take l.bank-index (logs_in l.banks)) × (array_vec_len l.logs ≡ l.bank-index)
    × AllWithin HasRun l.banks 0 l.bank-index
