-- One block more of the memory's bytes.
use Rattle.std.proofs.Common.{◌≡◌, ℕ, zero, suc, ◌+◌, ◌-◌, ◌≤◌, List, [], ◌∷◌, ◌++◌, length, min, take, drop, refl, sym, ◌∙◌, ap, arith, ◌⊎◌, inl, inr, length-append}
use Rattle.std.proofs.lemmas.List.{append-nil, drop-drop, drop_all, drop_at, length-drop, length-take, take-append-le, take_all, take_at}

-- a list and a part of another
take-past : (xs ys : List ℕ) (n m : ℕ) → n ≡ length xs + m → take n (xs ++ ys) ≡ xs ++ take m ys
take-past [] ys n m e = let same : n ≡ m = omega arith in ap (λ k. take k ys) same
take-past (x ∷ xs) ys zero m e = absurd (omega arith)
take-past (x ∷ xs) ys (suc n) m e = ap (λ zs. x ∷ zs) (take-past xs ys n m (omega arith))

-- what was told of some bytes, in places that had others
abbrev told : List ℕ → List ℕ → List ℕ
told bytes before = take (length before) bytes ++ drop (length bytes) before

-- what a place on is told
abbrev written : ℕ → List ℕ → List ℕ → List ℕ
written at bytes some = take at bytes ++ take (length bytes - at) some ++ drop (at + length some) bytes

-- there are as many places as before
told-long : (bytes before : List ℕ) → length (told bytes before) ≡ length before
told-long bytes before =
    omega (
      arith,
      length-append (take (length before) bytes) (drop (length bytes) before),
      length-take (length before) bytes,
      length-drop (length bytes) before,
    )

-- where there was room for them, and one block more
fits : (whole block before : List ℕ) → length whole ≤ length before
    → written (length whole) (told whole before) block ≡ told (whole ++ block) before
fits whole block before le =
    let L : ℕ = length before in
    let W : ℕ = length whole in
    let all : told whole before ≡ whole ++ drop W before = ap (λ zs. zs ++ drop W before) (take_all L whole le) in
    let first : take W (whole ++ drop W before) ≡ whole = take_at whole (drop W before) W refl in
    let long : length (whole ++ drop W before) ≡ L =
    ap length (sym all) ∙ told-long whole before in
    let rest : drop (W + length block) (whole ++ drop W before) ≡ drop (W + length block) before =
    sym (drop-drop (length block) W (whole ++ drop W before))
    ∙ (ap (drop (length block)) (drop_at whole (drop W before) W refl) ∙ drop-drop (length block) W before) in
    let some : take L (whole ++ block) ≡ whole ++ take (L - W) block = take-past whole block L (L - W) (omega arith) in
    ap (λ zs. written W zs block) all
    ∙ (ap (λ zs. zs ++ take (length (whole ++ drop W before) - W) block ++ drop (W + length block) (whole ++ drop W before)) first
    ∙ (ap (λ n. whole ++ take (n - W) block ++ drop (W + length block) (whole ++ drop W before)) long
    ∙ (ap (λ zs. whole ++ take (L - W) block ++ zs) rest
    ∙ (ap (λ zs. zs ++ drop (W + length block) before) (sym some)
    ∙ ap (λ n. take L (whole ++ block) ++ drop n before) (sym (length-append whole block))))))

-- where there was not
full : (whole block before : List ℕ) → length before ≤ length whole
    → written (length before) (told whole before) block ≡ told (whole ++ block) before
full whole block before le =
    let L : ℕ = length before in
    let bytes : List ℕ = told whole before in
    let long : length bytes ≡ L = told-long whole before in
    let first : take L bytes ≡ bytes = take_all L bytes (omega arith) in
    let none : L - L ≡ 0 = omega arith in
    let middle : take (length bytes - L) block ≡ [] = ap (λ n. take (n - L) block) long ∙ ap (λ n. take n block) none in
    let rest : drop (L + length block) bytes ≡ [] = drop_all (L + length block) bytes (omega arith) in
    let behind : drop (length whole) before ≡ [] = drop_all (length whole) before le in
    let more : length (whole ++ block) ≡ length whole + length block = length-append whole block in
    let later : drop (length (whole ++ block)) before ≡ [] = drop_all (length (whole ++ block)) before (omega arith) in
    let part : take L (whole ++ block) ≡ take L whole = take-append-le L whole block le in
    ap (λ zs. zs ++ take (length bytes - L) block ++ drop (L + length block) bytes) first
    ∙ (ap (λ zs. bytes ++ zs ++ drop (L + length block) bytes) middle
    ∙ (ap (λ zs. bytes ++ [] ++ zs) rest
    ∙ (append-nil (bytes ++ [])
    ∙ (append-nil bytes
    ∙ (ap (λ zs. take L whole ++ zs) (behind ∙ sym later) ∙ ap (λ zs. zs ++ drop (length (whole ++ block)) before) (sym part))))))

-- one number is at most another or above it
either : (a b : ℕ) → (a ≤ b) ⊎ (b ≤ a)
either zero b = inl (omega arith)
either (suc a) zero = inr (omega arith)
either (suc a) (suc b) = elim (either a b) [ inl h ↦ inl (omega arith) | inr h ↦ inr (omega arith) ]

-- bytes that were told, and one block more
pub told-more : (whole block before bytes next : List ℕ) (at : ℕ) → at ≡ min (length whole) (length before)
    → bytes ≡ take (length before) whole ++ drop (length whole) before
    → next ≡ take at bytes ++ take (length bytes - at) block ++ drop (at + length block) bytes
    → next ≡ take (length before) (whole ++ block) ++ drop (length (whole ++ block)) before
told-more whole block before bytes next at is before_is written_is =
    written_is
    ∙ (ap (λ zs. written at zs block) before_is
    ∙ elim (either (length whole) (length before)) [
      | inl le ↦
          let here : at ≡ length whole = omega arith in
          ap (λ n. written n (told whole before) block) here ∙ fits whole block before le
      | inr le ↦
          let here : at ≡ length before = omega arith in
          ap (λ n. written n (told whole before) block) here ∙ full whole block before le
    ])

-- and which place is next
pub place-more : (whole block before bytes : List ℕ) (at next : ℕ) → at ≡ min (length whole) (length before)
    → bytes ≡ take (length before) whole ++ drop (length whole) before → next ≡ min (at + length block) (length bytes)
    → next ≡ min (length (whole ++ block)) (length before)
place-more whole block before bytes at next is before_is next_is =
    let long : length bytes ≡ length before = ap length before_is ∙ told-long whole before in
    let more : length (whole ++ block) ≡ length whole + length block = length-append whole block in
    omega arith
