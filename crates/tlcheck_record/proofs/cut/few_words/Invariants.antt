use Rattle.std.proofs.Common.{◌≡◌, ◌++◌}
use denote.Shadow.{shadow}
use denote.Text.{Utf8}
use Rattle.tl_script_words.specs.Words.{texts, words_of}
use Rattle.tlcheck_record.proofs.cut.few_words.Given as goal

-- the words so far, and those of the rest
abbrev pub invariant-loop-number : goal.invariant-loop-number
invariant-loop-number g l = record {
  split : texts l.words.items ++ words_of l.rest ≡ words_of l.initial.line;
  utf8 : shadow (Utf8 l.rest);
}
