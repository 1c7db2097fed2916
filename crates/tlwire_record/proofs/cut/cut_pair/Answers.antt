use Rattle.std.proofs.Common.{rules}
use Rattle.tlwire_record.proofs.FieldWords.{more_parts, one_part}
use Rattle.tlwire_record.proofs.cut.cut_pair.Goals as goal

pub returns-in_default : goal.returns-in_default
returns-in_default c = one_part c.args.word.now c.cut_at.result.0.now (search rules)

pub returns-in_default-Some-cut_at : goal.returns-in_default-Some-cut_at
returns-in_default-Some-cut_at c =
    more_parts c.args.word.now c.cut_at.result.0.now c.in_default-Some.rest.now c.cut_at-2.result.0.now c.in_default-Some-cut_at.field-0-1.now (search rules) (search rules)
