use Rattle.tlwire_record.proofs.ValueWords.{added}
use Rattle.tlwire_record.proofs.fields.add_value.Goals as goal

pub returns-in-Ok : goal.returns-in-Ok
returns-in-Ok c =
    added c.args.fields.now c.add_field.new.fields c.args.word.now c.args.key.now c.args.value.now c.requires c.in-Ok.ensures

pub returns-in-Err : goal.returns-in-Err
returns-in-Err c = c.refused.ensures c.args.fields.now c.args.key.now c.args.value.now c.requires c.in-Err.ensures
