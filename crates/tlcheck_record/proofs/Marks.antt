-- Where a text has its first byte of a kind, what stands before it and behind it, and its words one after another.
use Rattle.std.proofs.Common.{◌≡◌, ℕ, ◌+◌, ◌-◌, ◌<◌, ◌≤◌, Bool, true, false, not, List, [], ◌∷◌, ◌++◌, length, length-take, take, drop, get_or, eqb, refl, sym, ◌∙◌, ap, subst, arith}
use Rattle.std.proofs.lemmas.Bool.{eqb-true}
use Rattle.std.specs.Borrow.{Bor}
use Rattle.std.proofs.lemmas.List.Splits.{slice_split_first, slice_split_none}
use Rattle.std.proofs.lemmas.List.{append-nil, append_assoc, get_or-take, map-append}
use Rattle.std.proofs.lemmas.List.Sums.{fails_before_first, position_or_len_is, prefix_len-le-length, prefix_len_stops}
use Rattle.std.proofs.lemmas.Str.{IsCharBoundary-before_ascii, IsCharBoundary-after_ascii}
use Rattle.std.specs.List.{position_or_len, slice_range}
use Rattle.std.specs.Str.{IsCharBoundary, IsUtf8}
use Rattle.tl_script_words.specs.Words.{texts}
use Rattle.tlcheck_record.specs.Parts.{parts_of}

-- what is not untrue is true
not_false : (b : Bool) → not b ≡ false → b ≡ true
not_false true e = refl
not_false false e = cc

module _ (m : ℕ) (text : List ℕ) (n : ℕ) (is : n ≡ position_or_len (λ b. eqb b m) text) where
  -- at the first such byte is one
  is_mark : n < length text → get_or text n 0 ≡ m
  is_mark lt =
      subst (λ (k : ℕ). get_or text k 0 ≡ m) (sym is)
      (eqb-true (get_or text (position_or_len (λ b. eqb b m) text) 0) m
      (not_false _ (prefix_len_stops (λ x. not (eqb x m)) text 0 (subst (λ (k : ℕ). k < length text) is lt))))

  -- so a text may be cut before it, where it is ASCII
  pub before : m < 128 → n < length text → IsCharBoundary text n
  before ascii lt = IsCharBoundary-before_ascii text n lt (omega (arith, is_mark lt, ascii))

  -- and after it
  pub after : m < 128 → IsUtf8 text → n < length text → IsCharBoundary text (n + 1)
  after ascii utf8 lt = IsCharBoundary-after_ascii text n utf8 lt (omega (arith, is_mark lt, ascii))

  -- the first part, and the parts behind it
  pub first : (part rest : List ℕ) → n < length text → part ≡ slice_range text 0 n → rest ≡ drop (n + 1) text
      → parts_of m text ≡ part ∷ parts_of m rest
  first part rest lt front back =
      let whole : n - 0 ≡ n = omega arith in
      subst (λ (k : ℕ). parts_of m text ≡ take k text ∷ parts_of m (drop (k + 1) text)) (sym is)
      (slice_split_first (λ b. eqb b m) text 0 (subst (λ (k : ℕ). k < length text) is lt))
      ∙ ap (λ (w : List ℕ). w ∷ parts_of m (drop (n + 1) text)) (ap (λ (k : ℕ). take k text) (sym whole) ∙ sym front)
      ∙ ap (λ (r : List ℕ). part ∷ parts_of m r) (sym back)

  -- a text with none is one part
  pub only : length text ≤ n → parts_of m text ≡ text ∷ []
  only end =
      slice_split_none (λ b. eqb b m) text
      (λ k d lt. fails_before_first (λ b. eqb b m) text k d (omega (arith, lt, is, end, prefix_len-le-length (λ b. not (eqb b m)) text)))

-- where the front of a text has such a byte, or is the whole text, the text has its first one there
pub near : (m : ℕ) (text : List ℕ) (n i : ℕ) → i ≡ position_or_len (λ b. eqb b m) (take n text) → (i < length text → i < n)
    → i ≡ position_or_len (λ b. eqb b m) text
near m text n i is lt =
    let within : i ≤ length (take n text) = omega (arith, is, prefix_len-le-length (λ b. not (eqb b m)) (take n text)) in
    sym (position_or_len_is (λ b. eqb b m) text i 0 (omega (arith, within, length-take n text))
    (λ k before. subst (λ (b : ℕ). eqb b m ≡ false) (get_or-take n text k 0 (omega (arith, before, within, length-take n text)))
    (fails_before_first (λ b. eqb b m) (take n text) k 0 (omega (arith, before, is))))
    (λ inside. subst (λ (b : ℕ). eqb b m ≡ true) (get_or-take n text i 0 (lt inside))
    (subst (λ (k : ℕ). eqb (get_or (take n text) k 0) m ≡ true) (sym is)
    (not_false _ (prefix_len_stops (λ b. not (eqb b m)) (take n text) 0 (omega (arith, is, inside, lt inside, length-take n text)))))))

-- ## One word more

-- the words so far and one more, and those behind it
pub one_more : (have next : List (Bor (List ℕ))) (word : Bor (List ℕ)) (behind rest all : List (List ℕ)) → next ≡ have ++ word ∷ [] → rest ≡ word.now ∷ behind
    → texts have ++ rest ≡ all → texts next ++ behind ≡ all
one_more have next word behind rest all more first split =
    ap (λ (words : List (Bor (List ℕ))). texts words ++ behind) more
    ∙ ap (λ (words : List (List ℕ)). words ++ behind) (map-append (λ w. w.now) have (word ∷ []))
    ∙ append_assoc (texts have) (word.now ∷ []) behind
    ∙ ap (λ (words : List (List ℕ)). texts have ++ words) (sym first) ∙ split

-- the words so far and the last one
pub last_one : (have next : List (Bor (List ℕ))) (word : Bor (List ℕ)) (rest all : List (List ℕ)) → next ≡ have ++ word ∷ [] → rest ≡ word.now ∷ []
    → texts have ++ rest ≡ all → texts next ≡ all
last_one have next word rest all more last split = sym (append-nil (texts next)) ∙ one_more have next word [] rest all more last split
