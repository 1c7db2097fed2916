use Rattle.std.proofs.Common.{rules}
use Rattle.tl_script_words.specs.Words.{bytes_of}
use Rattle.tl_script_words.proofs.WordLemmas.{goes_on}
use Rattle.tl_script_words.proofs.words.parse_bytes.Goals as goal

pub loop-rest-preserved : goal.loop-rest-preserved
loop-rest-preserved c =
    rw c.in_ok-push.ensures.items (goes_on c.loop-rest.bytes.items c.loop-rest.rest.now (bytes_of c.args.text.now) c.in_ok-ok_or.field-0 c.in-len2-up.len_at_least
    (search (rules, c.in_ok-ok_or.ensures, c.parse_byte.ensures)) c.loop-rest.invariant)
