-- A line as a text.
use Rattle.std.proofs.Common.{◌≡◌, ℕ, Bool, true, false, cond, List, Result, Ok, Err, refl, ap, ◌∙◌}
use Rattle.std.proofs.lemmas.Str.{IsUtf8-from_is_utf8}
use Rattle.std.specs.Str.{IsUtf8, is_utf8}
use Rattle.tlcheck_record.specs.Words.{has_mark, has_return, text_in}
use Rattle.tlcheck_record.specs.declared.cause.Cause.{Cause}
use Rattle.tlcheck_record.specs.declared.cause.Cause.TheVariants as cause

-- what is not true is false
not_is : (b : Bool) → (b ≡ true → ⊥) → b ≡ false
not_is true h = absurd (h refl)
not_is false h = refl

-- bytes that are no text
pub not_utf8 : (text : List ℕ) → (IsUtf8 text → ⊥) → is_utf8 text ≡ false
not_utf8 text h = not_is (is_utf8 text) (λ e. h (IsUtf8-from_is_utf8 text e))

-- what the tests lead to, one after another
abbrev by_tests : List ℕ → Bool → Bool → Bool → Result (List ℕ) Cause
by_tests line mark return utf8 = cond mark (Err cause.Mark) (cond return (Err cause.LineEnd) (cond utf8 (Ok line) (Err cause.Text)))

pub tested : (line : List ℕ) (mark return utf8 : Bool) → has_mark line ≡ mark → has_return line ≡ return → is_utf8 line ≡ utf8
    → text_in line ≡ by_tests line mark return utf8
tested line mark return utf8 m r u =
    ap (λ (b : Bool). by_tests line b (has_return line) (is_utf8 line)) m
    ∙ ap (λ (b : Bool). by_tests line mark b (is_utf8 line)) r
    ∙ ap (λ (b : Bool). by_tests line mark return b) u
