use Rattle.std.proofs.Common.{sym}
use Rattle.tlwire_record.proofs.Lines.{no_text, text_line}
use Rattle.tlwire_record.proofs.stage.take_line.Goals as goal

pub returns-in-Ok : goal.returns-in-Ok
returns-in-Ok c =
    text_line c.args.stage.now c.text_taken.new.stage c.args.number c.args.text.now c.in-Ok.text.now c.text_taken.result (sym (c.if-is_blank.ensures {u = tt})) (c.in-Ok.ensures {u = tt})
    c.text_taken.ensures

pub returns-in-Err : goal.returns-in-Err
returns-in-Err c =
    no_text c.args.stage.now c.args.stage.now c.args.number c.args.text.now c.in-Err.cause (sym (c.if-is_blank.ensures {u = tt})) (c.in-Err.ensures {u = tt})
