use Rattle.std.proofs.Common.{ℕ, List, Option, []}
use Rattle.tlcheck_rules.specs.Judged.{Follows}
use Rattle.tlcheck_record.specs.declared.header.Head.{Head}
use Rattle.tlcheck_reader.specs.Entries.{IsAmong}
use Rattle.tlcheck_reader.proofs.Judging.{Judged}
use Rattle.tlcheck_reader.proofs.record.check_entries.Given as goal

-- the judge has taken the entries that were given out
abbrev pub invariant-loop-count : goal.invariant-loop-count
invariant-loop-count g l =
    (known : Option (List ℕ)) (head : Head) (image : List ℕ)
    → IsAmong known (g.R.Read.remaining l.initial.reader) l.initial.entries head image [] → Follows head.order head.shape image [] l.initial.judge
    → Judged known (g.R.Read.remaining l.reader) l.entries head image l.judge l.count
