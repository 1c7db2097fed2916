use Rattle.std.proofs.Common.{arith}
use Rattle.tlcheck_record.proofs.Marks as marks
use Rattle.tlcheck_record.proofs.cut.near_len.Goals as goal

pub returns : goal.returns
returns c = λ lt.
    marks.near c.args.mark c.args.text.now c.min-end.result c.first_len.result c.first_len.ensures (λ inside. omega (arith, c.min-end.ensures, inside, lt))
