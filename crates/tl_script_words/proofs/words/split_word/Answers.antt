use Rattle.std.proofs.Common.{◌≡◌, ℕ, ◌+◌, ◌-◌, List, ◌∷◌, length, take, drop, eqb, sym, ◌∙◌, ap, subst, arith}
use Rattle.std.proofs.lemmas.List.{take_rest}
use Rattle.std.specs.List.{position_or_len}
use Rattle.tl_script_words.specs.Words.{words_of}
use Rattle.tl_script_words.proofs.SpaceLaws.{first_word}
use Rattle.tl_script_words.proofs.words.split_word.Goals as goal

pub returns-then-space-text : goal.returns-then-space-text
returns-then-space-text c =
    let text = c.args.text.now in
    let space : ℕ = position_or_len (λ b. eqb b 32) text in
    subst (λ n. words_of text ≡ take n text ∷ words_of (take (length text - (n + 1)) (drop (n + 1) text))) (sym c.first_len-space.ensures)
    (first_word text (omega (arith, c.first_len-space.ensures, c.if-space-text.true))
    ∙ ap (λ (rest : List ℕ). take space text ∷ words_of rest) (sym (take_rest text (space + 1))))
