-- A state with some changes, place by place.
use Rattle.std.proofs.Common.{◌≡◌, ℕ, suc, zero, ◌+◌, ◌-◌, ◌<◌, ◌≤◌, List, [], ◌∷◌, ◌++◌, length, map, take, drop, get_or, set, slice_get, refl, sym, ap, ◌∙◌, add-one, arith, length-append, length-drop, string_bytes}
use Rattle.std.proofs.lemmas.List.{append-nil, drop_all, length-map, length-take-le, set-get_or, take_all}
use Rattle.std.proofs.lemmas.Option.{get_or_from_slice_get, slice_get-map, slice_get_within}
use Rattle.std.specs.Option.{option_map}
use Rattle.std.specs.Prelude.{Option, Some, None, option_to_list}
use Rattle.tlchart_page.specs.Film.{changed}
use Rattle.tlchart_page.specs.Told.{IsChange, IsToldOn}
use Rattle.tlchart_page.specs.declared.film.Change.{Change}

-- one more change at the end
changed-push : (state : List (List ℕ)) (changes : List Change) (c : Change)
    → changed state (changes ++ c ∷ []) ≡ set (changed state changes) c.place (string_bytes c.text)
changed-push state [] c = refl
changed-push state (first ∷ rest) c = changed-push (set state first.place (string_bytes first.text)) rest c

-- ## One place

-- a place that shows what it showed is set to that
pub set-same : (state : List (List ℕ)) (place : ℕ) (text : List ℕ) → get_or state place [] ≡ text → state ≡ set state place text
set-same state place text same = sym (set-get_or state place []) ∙ ap (λ (t : List ℕ). set state place t) same

-- a place that was asked is told, where it shows another text
pub told-on : (changes more : List Change) (change : Option Change) (state next : List (List ℕ)) (place : ℕ) (text : List ℕ)
    → IsChange place (get_or state place []) text change → next ≡ set state place text → more ≡ changes ++ option_to_list change
    → IsToldOn changes state more next
told-on changes more None state next place text same is are = λ first so_far.
    ap (changed first) (are ∙ append-nil changes) ∙ so_far ∙ set-same state place text same ∙ sym is
told-on changes more (Some c) state next place text change is are = λ first so_far.
    ap (changed first) are ∙ changed-push first changes c
    ∙ ap (λ (s : List (List ℕ)). set s c.place (string_bytes c.text)) so_far
    ∙ ap (λ (p : ℕ). set state p (string_bytes c.text)) change.0
    ∙ ap (λ (t : List ℕ). set state place t) change.1
    ∙ sym is

-- ## All places

-- the first places of one list, and the rest of another, of the same length
abbrev pub half : List (List ℕ) → List (List ℕ) → ℕ → List (List ℕ)
half after before n = take n after ++ drop n before

-- one more place that is set
half-set : (after before : List (List ℕ)) (n : ℕ) → length before ≡ length after → n < length after
    → set (half after before n) n (get_or after n []) ≡ half after before (suc n)
half-set [] before n lengths lt = absurd (omega arith)
half-set (a ∷ after) [] n lengths lt = absurd (omega arith)
half-set (a ∷ after) (b ∷ before) zero lengths lt = refl
half-set (a ∷ after) (b ∷ before) (suc n) lengths lt =
    ap (λ (xs : List (List ℕ)). a ∷ xs) (half-set after before n (omega arith) (omega arith))

-- the next place is as it was
half-at : (after before : List (List ℕ)) (n : ℕ) → length before ≡ length after → n < length after
    → get_or (half after before n) n [] ≡ get_or before n []
half-at [] before n lengths lt = absurd (omega arith)
half-at (a ∷ after) [] n lengths lt = absurd (omega arith)
half-at (a ∷ after) (b ∷ before) zero lengths lt = refl
half-at (a ∷ after) (b ∷ before) (suc n) lengths lt = half-at after before n (omega arith) (omega arith)

-- what a list has at a place, and its map there
map-at : {S : Type 0} (f : S → List ℕ) (cells : List S) (n : ℕ) (cell : S) → slice_get cells n ≡ Some cell → get_or (map f cells) n [] ≡ f cell
map-at {S} f cells n cell at =
    get_or_from_slice_get (map f cells) n (f cell) [] (slice_get-map f cells n ∙ ap (λ (o : Option S). option_map f o) at)

-- a state that is half of another has each of its places
pub half-inside : {S T : Type 0} (f : S → List ℕ) (g : T → List ℕ) (cells : List S) (now : List T) (before : List (List ℕ)) (n : ℕ)
    → map g now ≡ half (map f cells) before n → length before ≡ length cells → n < length cells → n < length now
half-inside f g cells now before n is size lt =
    let after : length (map f cells) ≡ length cells = length-map cells f in
    let first : length (take n (map f cells)) ≡ n = length-take-le n (map f cells) (omega (arith, after)) in
    let rest : length (drop n before) ≡ length before - n = length-drop n before in
    let all : length (half (map f cells) before n) ≡ length (take n (map f cells)) + length (drop n before) =
    length-append (take n (map f cells)) (drop n before) in
    omega (arith, length-map now g, ap length is)

-- the next place shows what it showed
pub look-seen : {S : Type 0} (f : S → List ℕ) (cells : List S) (before state : List (List ℕ)) (n : ℕ) (cell : S)
    → slice_get cells n ≡ Some cell → length before ≡ length cells → state ≡ half (map f cells) before n
    → slice_get before n ≡ Some (f cell) → get_or state n [] ≡ f cell
look-seen f cells before state n cell at size so_far was =
    let lengths : length before ≡ length (map f cells) = size ∙ sym (length-map cells f) in
    let lt : n < length cells = slice_get_within cells n cell at in
    let inside : n < length (map f cells) = omega (arith, lengths, size, lt) in
    ap (λ (s : List (List ℕ)). get_or s n []) so_far ∙ half-at (map f cells) before n lengths inside
    ∙ get_or_from_slice_get before n (f cell) [] was

-- one more cell was looked at
pub look-next : {S : Type 0} (f : S → List ℕ) (cells : List S) (before state next : List (List ℕ)) (n : ℕ) (cell : S)
    → slice_get cells n ≡ Some cell → length before ≡ length cells → state ≡ half (map f cells) before n
    → next ≡ set state n (f cell) → next ≡ half (map f cells) before (n + 1)
look-next f cells before state next n cell at size so_far is =
    let lengths : length before ≡ length (map f cells) = size ∙ sym (length-map cells f) in
    let lt : n < length cells = slice_get_within cells n cell at in
    let inside : n < length (map f cells) = omega (arith, lengths, size, lt) in
    is ∙ ap (λ (s : List (List ℕ)). set s n (f cell)) so_far
    ∙ ap (λ (t : List ℕ). set (half (map f cells) before n) n t) (sym (map-at f cells n cell at))
    ∙ half-set (map f cells) before n lengths inside
    ∙ ap (half (map f cells) before) (sym (add-one n))

-- all were looked at
pub look-all : {S : Type 0} (f : S → List ℕ) (cells : List S) (before : List (List ℕ)) (n : ℕ) → length before ≡ length cells
    → length cells ≤ n → half (map f cells) before n ≡ map f cells
look-all f cells before n size past =
    let after : length (map f cells) ≤ n = omega (arith, length-map cells f) in
    let rest : length before ≤ n = omega arith in
    ap (λ (ts : List (List ℕ)). ts ++ drop n before) (take_all n (map f cells) after)
    ∙ ap (λ (ts : List (List ℕ)). map f cells ++ ts) (drop_all n before rest)
    ∙ append-nil (map f cells)
