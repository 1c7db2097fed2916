use Rattle.std.proofs.Common.{rules}
use Rattle.tlcheck_record.proofs.written.words_after.Goals as goal

pub returns-in-AnswerProbe : goal.returns-in-AnswerProbe
returns-in-AnswerProbe c = search rules
