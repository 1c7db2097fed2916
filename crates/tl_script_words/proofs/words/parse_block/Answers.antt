use Rattle.std.proofs.Common.{◌≡◌, ◌++◌, ◌∷◌, ◌≤◌, [], length, sym, rules, arith}
use Rattle.std.proofs.lemmas.Grind.{common_steps}
use Rattle.tl_script_words.specs.Words.{bytes_of}
use Rattle.tl_script_words.proofs.WordLemmas.{goes_on, too_many_of_block}
use Rattle.tl_script_words.proofs.words.parse_block.Goals as goal

pub returns-then-is_err : goal.returns-then-is_err
returns-then-is_err c =
    let full : 64 ≤ length c.loop-rest.bytes.items = grind (arith, common_steps) in
    sym (too_many_of_block c.loop-rest.bytes.items c.loop-rest.rest.now c.args.text.now full c.in-len2-up.len_at_least c.loop-rest.invariant)

pub loop-rest-preserved : goal.loop-rest-preserved
loop-rest-preserved c =
    let pushed : c.try_push.new.self.items ≡ c.loop-rest.bytes.items ++ c.in_ok-parse_byte.field-0 ∷ [] = grind (arith, common_steps) in
    rw pushed (goes_on c.loop-rest.bytes.items c.loop-rest.rest.now (bytes_of c.args.text.now) c.in_ok-parse_byte.field-0 c.in-len2-up.len_at_least
    (search (rules, c.in_ok-parse_byte.ensures)) c.loop-rest.invariant)
