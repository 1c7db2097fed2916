use Rattle.std.proofs.Common.{◌<◌, ℕ, List, Option, [], length, min}
use Rattle.tlcheck_rules.specs.Judged.{Follows}
use Rattle.tlcheck_record.specs.declared.header.Head.{Head}
use Rattle.tlcheck_reader.specs.Entries.{IsAmong}
use Rattle.tlcheck_reader.proofs.Judging.{Judged}
use Rattle.tlcheck_coverage.specs.Tallies.{Opens, TalliesState}
use Rattle.tlcheck_coverage.specs.declared.tallies.TheConstants.{MOST}
use Rattle.tlcheck_coverage.proofs.Counting.{Amid}
use Rattle.tlcheck_coverage.proofs.reading.cover_entries.Given as goal

-- the entries that were given out are judged, and counted over the tally
abbrev pub invariant-loop-count : goal.invariant-loop-count
invariant-loop-count g l = record {
  inside : l.fn.place < length l.tallies.tallies;
  judged : (known : Option (List ℕ)) (head : Head) (image : List ℕ)
      → IsAmong known (g.R.Read.remaining l.initial.reader) l.initial.entries head image [] → Follows head.order head.shape image [] l.initial.judge
      → Judged known (g.R.Read.remaining l.reader) l.entries head image l.judge l.count;
  amid : (known : Option (List ℕ)) (head : Head) (image : List ℕ) (initial : TalliesState)
      → IsAmong known (g.R.Read.remaining l.initial.reader) l.initial.entries head image [] → Follows head.order head.shape image [] l.initial.judge
      → 0 < head.shape.clients → Opens (min head.shape.clients MOST) l.fn.place initial l.initial.tallies
      → Amid l.fn.file l.fn.place known (g.R.Read.remaining l.reader) l.entries head image l.judge l.count initial l.tallies;
}
