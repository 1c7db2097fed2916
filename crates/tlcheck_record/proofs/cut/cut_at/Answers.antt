use Rattle.std.proofs.Common.{rules}
use Rattle.tlcheck_record.proofs.Marks as marks
use Rattle.tlcheck_record.proofs.cut.cut_at.Goals as goal

pub range-requires-clause-end_boundary : goal.range-requires-clause-end_boundary
range-requires-clause-end_boundary c =
    marks.before c.args.mark c.args.text.now c.part_len-end.result (search rules) c.requires c.if-end-text.true

pub range_from-requires : goal.range_from-requires
range_from-requires c = λ pos. marks.after c.args.mark c.args.text.now c.part_len-end.result (search rules) c.requires c.utf8.text c.if-end-text.true

pub returns-then-end-text : goal.returns-then-end-text
returns-then-end-text c =
    marks.first c.args.mark c.args.text.now c.part_len-end.result (search rules) c.range.result.now c.range_from.result.now c.if-end-text.true
    c.range.ensures.value c.range_from.ensures.value

pub returns-else-end-text : goal.returns-else-end-text
returns-else-end-text c = marks.only c.args.mark c.args.text.now c.part_len-end.result (search rules) c.if-end-text.false
