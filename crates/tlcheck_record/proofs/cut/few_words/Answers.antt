use Rattle.std.proofs.Common.{rules}
use Rattle.tlcheck_record.proofs.Marks as marks
use Rattle.tlcheck_record.proofs.cut.few_words.Goals as goal

pub returns-in-None : goal.returns-in-None
returns-in-None g c =
    marks.last_one c.loop-number.words.items c.try_push.new.self.items c.cut_at.result.0 _ _ (search rules) (search rules) c.loop-number.invariant.split

pub loop-number-preserved : goal.loop-number-preserved
loop-number-preserved g c = record {
  split = marks.one_more c.loop-number.words.items c.try_push.new.self.items c.cut_at.result.0 _ _ _ (search rules) (search rules) c.loop-number.invariant.split;
  utf8 = search rules;
}
