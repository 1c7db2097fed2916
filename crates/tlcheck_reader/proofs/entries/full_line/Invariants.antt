use Rattle.std.proofs.Common.{ℕ, List, Option}
use Rattle.tlcheck_reader.specs.Entries.{IsRead}
use Rattle.tlcheck_reader.specs.Reading.{Reading}
use Rattle.tlcheck_reader.proofs.entries.full_line.Given as goal

-- blank lines leave what was read
abbrev pub invariant-loop-before : goal.invariant-loop-before
invariant-loop-before g l =
    (known : Option (List ℕ)) (reading : Reading) → IsRead known (g.R.Read.remaining l.initial.reader) l.fn.lines reading
    → IsRead known (g.R.Read.remaining l.reader) l.before reading
