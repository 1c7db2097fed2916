use Rattle.tlwire_record.proofs.ValueWords.{refused_value, refused_word}
use Rattle.tlwire_record.proofs.fields.refused.Goals as goal

-- it has one `=`
pub returns-in-Some : goal.returns-in-Some
returns-in-Some c = λ have key value parts h. refused_value have c.args.word.now key value _ _ c.args.error parts c.in-Some.ensures h

pub returns-in-None : goal.returns-in-None
returns-in-None c = λ have key value parts h. refused_word have c.args.word.now c.in-None.ensures
