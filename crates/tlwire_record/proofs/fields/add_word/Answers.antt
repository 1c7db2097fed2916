use Rattle.std.proofs.Common.{rules}
use Rattle.tlwire_record.proofs.FieldWords.{one_part}
use Rattle.tlwire_record.proofs.ValueWords.{refused_word}
use Rattle.tlwire_record.proofs.fields.add_word.Goals as goal

-- it has no `=`
pub returns-in_default-None : goal.returns-in_default-None
returns-in_default-None c = refused_word c.args.fields.now c.args.word.now (one_part c.args.word.now c.cut_at.result.0.now (search rules))
