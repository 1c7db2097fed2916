-- Items that a loop writes one after another.
use Rattle.std.proofs.Common.{◌≡◌, ℕ, ◌+◌, ◌<◌, List, [], ◌∷◌, ◌++◌, Option, length, get_or, take, sym, ap, ◌∙◌}
use Rattle.std.proofs.lemmas.Grind.{put_two}
use Rattle.std.proofs.lemmas.List.{flat_map_more, take_more}
use Rattle.std.specs.Fmt.{HasWritten}
use Rattle.std.specs.declared.fmt.Formatter.{Formatter}
use Rattle.std.specs.List.{flat_map}
use Rattle.tl_types.specs.declared.kind.Kind.{Kind}
use Rattle.tlcheck_record.specs.Written.{message_text}

-- the texts of the items so far, and that of one more
text_of_more : {X : Type 0} (text : X → List ℕ) (xs : List X) (i : ℕ) (x d : X) → i < length xs → x ≡ get_or xs i d
    → flat_map text (take i xs) ++ text x ≡ flat_map text (take (i + 1) xs)
text_of_more {X = X} text xs i x d lt is =
    flat_map_more text [] (take i xs) x
    ∙ ap (λ (ys : List X). flat_map text ys) (ap (λ (y : X). take i xs ++ y ∷ []) is ∙ sym (take_more xs i d lt))

-- where one more item is written, the items so far and that one are
pub one_more_is_written : {W X : Type 0} (took : W → List ℕ → W → Type 0) (text : X → List ℕ) (xs : List X) (i : ℕ) (x d : X) (f g h : Formatter W)
    (written : List ℕ) → i < length xs → x ≡ get_or xs i d → written ≡ text x
    → HasWritten took f (flat_map text (take i xs)) g → HasWritten took g written h → HasWritten took f (flat_map text (take (i + 1) xs)) h
one_more_is_written took text xs i x d f g h written lt is same before gave =
    put_two took f g h (flat_map text (take i xs)) written (flat_map text (take (i + 1) xs)) before gave
    (ap (λ (t : List ℕ). flat_map text (take i xs) ++ t) same ∙ text_of_more text xs i x d lt is)

-- a message by its kind and its bytes
pub same_message : (head : List ℕ) (k l : Kind) (bs cs : Option (List ℕ)) → k ≡ l → bs ≡ cs → head ++ message_text k bs ≡ head ++ message_text l cs
same_message head k l bs cs kinds bytes =
    ap (λ (x : Kind). head ++ message_text x bs) kinds ∙ ap (λ (x : Option (List ℕ)). head ++ message_text l x) bytes
