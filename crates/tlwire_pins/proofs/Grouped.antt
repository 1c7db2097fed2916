-- The lines of one client, block by block.
use Rattle.std.proofs.Common.{◌≡◌, ◌==◌, ◌&&◌, ◌<◌, ◌≤◌, ◌+◌, ℕ, zero, suc, Bool, true, false, cond, List, [], ◌∷◌, ◌++◌, filter, map, take, get_or, length, refl, sym, ap, subst, ◌∙◌, inl, inr, arith}
use Rattle.std.proofs.lemmas.Bool.{cases_lt}
use Rattle.std.proofs.lemmas.List.{append-nil, map-append, take_more}
use Rattle.std.proofs.lemmas.List.Elements.{filter-append}
use Rattle.std.specs.Borrow.{Bor}
use Rattle.tl_types.specs.Codes.{channel_of}
use Rattle.tl_protocol.specs.declared.shape.Shape.{Shape}
use Rattle.tlwire_search.specs.Where.{block_of}
use Rattle.tlwire_search.specs.declared.seen.Seen.{Seen}
use Rattle.tlwire_search.specs.declared.seen.Seen.TheVariants.{OnLink, OnMemory, Load, Store}
use Rattle.tlwire_pins.proofs.Ordered.{own-filter, told-filter}
use Rattle.tlwire_pins.specs.Pins.{KeepsOrder, is_of_client, is_own, is_told, own, told}
use Rattle.tlwire_pins.specs.Walk.{IsBeginning, is_in}
use Rattle.tlwire_pins.specs.declared.view.Cores.{Cores}
use Rattle.tlwire_pins.specs.declared.view.Cores.TheVariants.{Watched, Unseen}

-- the lines behind references
abbrev pub nows : List (Bor Seen) → List Seen
nows xs = map (λ (x : Bor Seen). x.now) xs

-- ## One more line of a block

nows_more : (t : Bool) (xs : List (Bor Seen)) (x : Bor Seen) → nows (cond t (xs ++ x ∷ []) xs) ≡ nows xs ++ cond t (x.now ∷ []) []
nows_more true xs x = map-append (λ (y : Bor Seen). y.now) xs (x ∷ [])
nows_more false xs x = sym (append-nil (nows xs))

-- so each block has its lines, with one more line
pub joins : (shape : Shape) (lines : List (Bor Seen)) (i : ℕ) (x : Bor Seen) (old new : List (List (Bor Seen))) (at block : ℕ)
    → i < length lines → x ≡ get_or lines i x → at ≡ block_of shape.block_bytes x.now
    → get_or new block [] ≡ cond (at == block) (get_or old block [] ++ x ∷ []) (get_or old block [])
    → nows (get_or old block []) ≡ filter (is_in shape block) (nows (take i lines))
    → nows (get_or new block []) ≡ filter (is_in shape block) (nows (take (i + 1) lines))
joins shape lines i x old new at block lt is own more had =
    let here : take (i + 1) lines ≡ take i lines ++ x ∷ [] =
    take_more lines i x lt ∙ ap (λ (y : Bor Seen). take i lines ++ y ∷ []) (sym is) in
    ap nows more
    ∙ (nows_more (at == block) (get_or old block []) x
    ∙ (ap (λ (n : ℕ). nows (get_or old block []) ++ cond (n == block) (x.now ∷ []) []) own
    ∙ (ap (λ (ys : List Seen). ys ++ filter (is_in shape block) (x.now ∷ [])) had
    ∙ (sym (filter-append (is_in shape block) (nows (take i lines)) (x.now ∷ []))
    ∙ ap (λ (ys : List Seen). filter (is_in shape block) ys) (sym (map-append (λ (y : Bor Seen). y.now) (take i lines) (x ∷ [])) ∙ ap nows (sym here))))))

-- ## The lines of a block at a client's pins

middle : (t u v : Bool) → (t && v) ≡ true → (t && u && v) ≡ u
middle true true true e = refl
middle true false true e = refl
middle true u false e = cc
middle false u v e = cc

behind : (t u : Bool) → t ≡ true → (t && u) ≡ u
behind true u e = refl
behind false u e = cc

-- what is told at a client's pins is one of a block there, if it is of the block
own_is : (cores : Cores) (shape : Shape) (c block : ℕ) (x : Seen) → is_of_client cores c x ≡ true → is_own shape c block x ≡ is_in shape block x
own_is cores shape c block (OnLink x b message) e = middle (x == c) (b == block) (is_told (channel_of message.kind)) e
own_is cores shape c block (OnMemory b message) e = cc
own_is Watched shape c block (Load x address bytes) e = behind (x == c) _ e
own_is Unseen shape c block (Load x address bytes) e = cc
own_is Watched shape c block (Store x address bytes) e = behind (x == c) _ e
own_is Unseen shape c block (Store x address bytes) e = cc

-- with one line more, which is told or not
told_in : (shape : Shape) (c block : ℕ) (x : Seen) (xs : List Seen) (t : Bool) → (t ≡ true → is_own shape c block x ≡ is_in shape block x)
    → own shape c block xs ≡ filter (is_in shape block) xs → own shape c block (cond t (x ∷ xs) xs) ≡ filter (is_in shape block) (cond t (x ∷ xs) xs)
told_in shape c block x xs true same rest =
    ap (λ (u : Bool). cond u (x ∷ own shape c block xs) (own shape c block xs)) (same refl)
    ∙ ap (λ (ys : List Seen). cond (is_in shape block x) (x ∷ ys) ys) rest
told_in shape c block x xs false same rest = rest

own_in : (cores : Cores) (shape : Shape) (c block : ℕ) (xs : List Seen)
    → own shape c block (filter (is_of_client cores c) xs) ≡ filter (is_in shape block) (filter (is_of_client cores c) xs)
own_in cores shape c block [] = refl
own_in cores shape c block (x ∷ xs) =
    told_in shape c block x (filter (is_of_client cores c) xs) (is_of_client cores c x) (own_is cores shape c block x) (own_in cores shape c block xs)

-- an element that is there is the same whatever is said of those that are not
there : {X : Type 0} (xs : List X) (i : ℕ) (d e : X) → i < length xs → get_or xs i d ≡ get_or xs i e
there [] i d e lt = absurd (omega (arith, lt))
there (x ∷ xs) zero d e lt = refl
there (x ∷ xs) (suc i) d e lt = there xs i d e (omega (arith, lt))

-- the lines of a block that were compared
pub begins : (some all : List (List (Bor Seen))) (block : ℕ) (x y u v : List (Bor Seen)) → block < length some → block < length all
    → x ≡ get_or some block x → y ≡ get_or all block y → u ≡ x → v ≡ y → IsBeginning (nows u) (nows v)
    → IsBeginning (nows (get_or some block [])) (nows (get_or all block []))
begins some all block x y u v lt less is_x is_y is_u is_v h =
    subst (λ (ys : List (Bor Seen)). IsBeginning (nows (get_or some block [])) (nows ys)) (is_v ∙ (is_y ∙ there all block y [] less))
    (subst (λ (xs : List (Bor Seen)). IsBeginning (nows xs) (nows v)) (is_u ∙ (is_x ∙ there some block x [] lt)) h)

-- past the last block is nothing
past : {X : Type 0} (xs : List X) (i : ℕ) (d : X) → length xs ≤ i → get_or xs i d ≡ d
past [] i d h = refl
past (x ∷ xs) zero d h = absurd (omega (arith, h))
past (x ∷ xs) (suc i) d h = past xs i d (omega (arith, h))

-- where of each block the record's lines are the beginning, the order is kept
pub keeps_each : (cores : Cores) (shape : Shape) (c : ℕ) (lines seen : List Seen) (some all : List (Bor Seen)) (groups others gs os : List (List (Bor Seen)))
    → nows all ≡ filter (is_of_client cores c) lines → nows some ≡ filter (is_of_client Watched c) seen
    → ((block : ℕ) → nows (get_or others block []) ≡ filter (is_in shape block) (nows all))
    → ((block : ℕ) → nows (get_or groups block []) ≡ filter (is_in shape block) (nows some))
    → gs ≡ groups → os ≡ others
    → ((block : ℕ) → block < length gs → IsBeginning (nows (get_or gs block [])) (nows (get_or os block [])))
    → KeepsOrder cores shape c lines seen
keeps_each cores shape c lines seen some all groups others gs os is_all is_some in_others in_groups is_gs is_os each block =
    let whole : nows (get_or others block []) ≡ own shape c block (told cores lines) =
    in_others block
    ∙ (ap (λ (xs : List Seen). filter (is_in shape block) xs) is_all
    ∙ (sym (own_in cores shape c block lines) ∙ told-filter cores shape c block lines)) in
    let part : nows (get_or groups block []) ≡ own shape c block seen =
    in_groups block
    ∙ (ap (λ (xs : List Seen). filter (is_in shape block) xs) is_some
    ∙ (sym (own_in Watched shape c block seen) ∙ own-filter shape c block seen)) in
    let begins : IsBeginning (nows (get_or groups block [])) (nows (get_or others block [])) =
    elim (cases_lt block (length groups)) [
      | inl lt ↦
          subst (λ (xs : List (List (Bor Seen))). IsBeginning (nows (get_or groups block [])) (nows (get_or xs block []))) is_os
          (subst (λ (xs : List (List (Bor Seen))). IsBeginning (nows (get_or xs block [])) (nows (get_or os block []))) is_gs
          (each block (subst (λ (xs : List (List (Bor Seen))). block < length xs) (sym is_gs) lt)))
      | inr ge ↦
          let none : get_or groups block [] ≡ [] = past groups block [] ge in
          (nows (get_or others block []), ap (λ (ys : List (Bor Seen)). nows ys ++ nows (get_or others block [])) (sym none))
    ] in
    (begins.0, sym whole ∙ (begins.1 ∙ ap (λ (ys : List Seen). ys ++ begins.0) part))
