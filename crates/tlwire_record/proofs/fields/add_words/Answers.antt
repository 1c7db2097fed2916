use Rattle.std.proofs.Common.{rules, arith}
use Rattle.tl_script_words.specs.Words.{texts}
use Rattle.tlwire_record.specs.Fields.{fields_in}
use Rattle.tlwire_record.proofs.FieldWords.{at_end, no_more, one_more}
use Rattle.tlwire_record.proofs.fields.add_words.Goals as goal

pub returns-in_err-add_word : goal.returns-in_err-add_word
returns-in_err-add_word c =
    no_more (fields_in c.args.fields.now (texts c.args.words.now)) c.loop-rest.fields c.add_word.new.fields c.loop-rest.rest.now _ c.add_word.result c.in_err-add_word.field-0.0
    c.from_residual.result c.in-len1-up.len_at_least (search rules) (search rules) c.add_word.ensures (search rules)

pub loop-rest-preserved : goal.loop-rest-preserved
loop-rest-preserved c =
    one_more (fields_in c.args.fields.now (texts c.args.words.now)) c.loop-rest.fields c.add_word.new.fields c.loop-rest.rest.now _ c.add_word.result c.in_ok-add_word.field-0
    c.in-len1-up.len_at_least (search rules) c.add_word.ensures (search rules)

pub returns : goal.returns
returns c = at_end (fields_in c.args.fields.now (texts c.args.words.now)) c.loop-rest.fields c.loop-rest.rest.now (omega (arith, c.in_default.len_below)) (search rules)
