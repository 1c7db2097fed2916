use Rattle.std.proofs.Common.{◌≡◌, ◌∙◌, ℕ, Bool, true, false, cond, nat_lt, List, length, Option, Some, None, Ok, Err, ok_or, refl, ap}
use Rattle.tl_script_words.specs.Words.{block_of, bytes_of}
use Rattle.tl_script_words.proofs.WordLemmas.{few_of_block, none_of_block}
use Rattle.tlcheck_record.specs.Words.{block_bytes_in}
use Rattle.tlcheck_record.specs.declared.cause.Cause.TheVariants as cause
use Rattle.tlcheck_record.proofs.words.read_block_bytes.Goals as goal

by_length : (b : Bool) (bytes : List ℕ) → ok_or (cond b None (Some bytes)) cause.Bytes ≡ cond b (Err cause.Bytes) (Ok bytes)
by_length true bytes = refl
by_length false bytes = refl

by_bytes : (text : List ℕ) (o : Option (List ℕ)) → bytes_of text ≡ o → ok_or (block_of text) cause.Bytes ≡ block_bytes_in text
unfolding block_bytes_in
by_bytes text None h = rw (none_of_block text h, h) refl
by_bytes text (Some bytes) h = rw (few_of_block text bytes h, h) (by_length (nat_lt 64 (length bytes)) bytes)

pub returns : goal.returns
returns c =
    c.ok_or.ensures.value ∙ (ap (λ (o : Option (List ℕ)). ok_or o cause.Bytes) c.parse_block.ensures ∙ by_bytes c.args.text.now (bytes_of c.args.text.now) refl)
