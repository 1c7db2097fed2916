use Rattle.std.proofs.Common.{◌≡◌, take}
use Rattle.arrayvec.specs.ArrayVec.{array_vec_len}
use Rattle.tl_rules.specs.Certified.{events_of, logs_of}
use Rattle.tl_rules.proofs.merge.certify.Given as goal

abbrev pub invariant-loop-log : goal.invariant-loop-log
invariant-loop-log l =
    (events_of l.events.items ≡ take l.log-index (logs_of l.logs)) × (array_vec_len l.events ≡ l.log-index)
