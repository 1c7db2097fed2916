use Rattle.std.proofs.Common.{ℕ, List, Result, Ok, false, true, sym, ap, ◌∙◌, rules}
use Rattle.std.proofs.lemmas.Str.{is_utf8-from_IsUtf8}
use Rattle.tlcheck_record.specs.declared.cause.Cause.{Cause}
use Rattle.tlcheck_record.proofs.Texts.{not_utf8, tested}
use Rattle.tlcheck_record.proofs.words.read_text.Goals as goal

pub returns-in-Ok : goal.returns-in-Ok
returns-in-Ok c =
    let same = (c.in-Ok.ensures {u = tt}).cases in
    let read : List ℕ → Result (List ℕ) Cause = λ text. Ok text in
    tested c.args.line.now false false true (sym (c.if-has_mark.ensures {u = tt})) (sym (c.if-has_return.ensures {u = tt}))
    (is_utf8-from_IsUtf8 c.args.line.now same.1) ∙ ap read (sym same.0)

pub returns-in-Err : goal.returns-in-Err
returns-in-Err c =
    tested c.args.line.now false false false (sym (c.if-has_mark.ensures {u = tt})) (sym (c.if-has_return.ensures {u = tt}))
    (not_utf8 c.args.line.now (c.in-Err.ensures {u = tt}).cases.0)

pub returns-then-has_return : goal.returns-then-has_return
returns-then-has_return c = search rules
