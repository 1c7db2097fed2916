-- Marks on what was seen: the first on a wire that has none is the next there.
use Rattle.std.proofs.Common.{◌≡◌, ◌<◌, ℕ, zero, suc, Bool, true, false, cond, List, [], ◌∷◌, ◌++◌, length, set, get_or, replicate, All, Some, slice_get, refl, sym, ap, ◌∙◌, subst, arith, eqb-true}
use Rattle.std.proofs.lemmas.List.{length-set}
use Rattle.std.proofs.lemmas.List.Elements.{All-push, All-weaker}
use Rattle.tl_types.proofs.Lanes.{is_here-true, same_channel-true}
use Rattle.tl_types.specs.declared.channel.Channel.{Channel}
use Rattle.tlwire_search.specs.Explained.{on, same_wire, wire_of}
use Rattle.tlwire_search.specs.Left.{AreMarked, IsDone, IsMarked, IsMarking, MarkState, left}
use Rattle.tlwire_search.specs.declared.seen.Seen.{Seen}
use Rattle.tlwire_search.specs.declared.seen.Wire.{Wire}
use Rattle.tlwire_search.specs.declared.seen.Wire.TheVariants.{Link, Memory, Core}

-- with no mark all is left
pub none_marked : (n : ℕ) (seen : List Seen) → left (replicate n false) seen ≡ seen
none_marked zero seen = refl
none_marked (suc n) [] = refl
none_marked (suc n) (s ∷ rest) = ap (λ (xs : List Seen). s ∷ xs) (none_marked n rest)

-- with each marked nothing is left
pub all_marked : (marks : List Bool) (seen : List Seen) → length marks ≡ length seen → AreMarked marks (length seen) → left marks seen ≡ []
all_marked [] [] sized all = refl
all_marked [] (s ∷ rest) sized all = absurd (omega arith)
all_marked (mark ∷ marks) [] sized all = refl
all_marked (mark ∷ marks) (s ∷ rest) sized all =
    ap (λ (t : Bool). cond t (left marks rest) (s ∷ left marks rest)) (all 0 (omega arith))
    ∙ all_marked marks rest (omega arith) (λ k lt. all (suc k) (omega arith))

-- ## Wires

-- wires that are the same are one
pub same_wire-true : (w v : Wire) → same_wire w v ≡ true → w ≡ v
same_wire-true (Link c l) (Link x k) h =
    let both : (x ≡ c) × (k ≡ l) = is_here-true c l x k h in
    cc (both.0, both.1)
same_wire-true (Link c l) (Memory k) h = cc
same_wire-true (Link c l) (Core x) h = cc
same_wire-true (Memory l) (Link x k) h = cc
same_wire-true (Memory l) (Memory k) h = ap (λ (m : Channel). Memory m) (sym (same_channel-true k l h))
same_wire-true (Memory l) (Core x) h = cc
same_wire-true (Core c) (Link x k) h = cc
same_wire-true (Core c) (Memory k) h = cc
same_wire-true (Core c) (Core x) h = ap (λ (n : ℕ). Core n) (sym (eqb-true x c h))

-- ## The next on a wire

-- what is in front of a list, if it is there
if_front : (t : Bool) (s : Seen) (xs : List Seen) → cond t (s ∷ xs) xs ≡ cond t (s ∷ []) [] ++ xs
if_front true s xs = refl
if_front false s xs = refl

-- what is on another wire stays behind it
if_behind : (t u : Bool) (r s : Seen) (xs ys : List Seen) → xs ≡ cond u (s ∷ []) [] ++ ys → (t ≡ true → u ≡ true → ⊥)
    → cond t (r ∷ xs) xs ≡ cond u (s ∷ []) [] ++ cond t (r ∷ ys) ys
if_behind true true r s xs ys e apart = absurd (apart refl refl)
if_behind true false r s xs ys e apart = ap (λ (zs : List Seen). r ∷ zs) e
if_behind false u r s xs ys e apart = e

-- things on two wires
apart_on : (w v : Wire) (r s : Seen) → wire_of s ≡ v → (wire_of r ≡ v → ⊥) → same_wire w (wire_of r) ≡ true → same_wire w (wire_of s) ≡ true → ⊥
apart_on w v r s at other h k =
    let one : w ≡ wire_of r = same_wire-true w (wire_of r) h in
    let two : w ≡ wire_of s = same_wire-true w (wire_of s) k in
    other (sym one ∙ (two ∙ at))

-- the first on its wire without a mark gets one: there it was next
pub marked_next : (w v : Wire) (seen : List Seen) (marks : List Bool) (place : ℕ) (s : Seen)
    → get_or marks place true ≡ false → slice_get seen place ≡ Some s → wire_of s ≡ v
    → ((k : ℕ) (r : Seen) → k < place → get_or marks k true ≡ false → slice_get seen k ≡ Some r → wire_of r ≡ v → ⊥)
    → on w (left marks seen) ≡ on w (s ∷ []) ++ on w (left (set marks place true) seen)
marked_next w v seen [] place s free here at before = cc
marked_next w v [] (m ∷ ms) place s free here at before = cc
marked_next w v (r ∷ rest) (true ∷ ms) zero s free here at before = cc
marked_next w v (r ∷ rest) (false ∷ ms) zero s free here at before =
    let same : r ≡ s = cc in
    subst (λ (x : Seen). on w (x ∷ left ms rest) ≡ on w (s ∷ []) ++ on w (left ms rest)) (sym same) (if_front (same_wire w (wire_of s)) s (on w (left ms rest)))
marked_next w v (r ∷ rest) (true ∷ ms) (suc place) s free here at before =
    marked_next w v rest ms place s free here at (λ k x lt. before (suc k) x (omega arith))
marked_next w v (r ∷ rest) (false ∷ ms) (suc place) s free here at before =
    if_behind (same_wire w (wire_of r)) (same_wire w (wire_of s)) r s (on w (left ms rest)) (on w (left (set ms place true) rest))
    (marked_next w v rest ms place s free here at (λ k x lt. before (suc k) x (omega arith)))
    (apart_on w v r s at (before 0 r (omega arith) refl refl))

-- a wire with nothing left has nothing left
still_done : (xs ys zs : List Seen) → xs ≡ ys ++ zs → xs ≡ [] → zs ≡ []
still_done xs [] zs e none = sym e ∙ none
still_done xs (y ∷ ys) zs e none = let both : y ∷ (ys ++ zs) ≡ [] = sym e ∙ none in cc

-- so what is marked is the next on its wire
pub is_marked : (seen : List Seen) (old new : MarkState) (place : ℕ) (s : Seen)
    → IsMarking seen old → get_or old.marks place true ≡ false → slice_get seen place ≡ Some s
    → ((k : ℕ) (r : Seen) → k < place → get_or old.marks k true ≡ false → slice_get seen k ≡ Some r → wire_of r ≡ wire_of s → ⊥)
    → new.marks ≡ set old.marks place true → new.done ≡ old.done → AreMarked new.marks new.from → IsMarked seen old new s
is_marked seen old new place s marking free here before is kept passed =
    let next : (w : Wire) → on w (left old.marks seen) ≡ on w (s ∷ []) ++ on w (left new.marks seen) =
    λ w. marked_next w (wire_of s) seen old.marks place s free here refl before
    ∙ ap (λ (ms : List Bool). on w (s ∷ []) ++ on w (left ms seen)) (sym is) in
    record {
      marking = record {
        sized = ap (λ (ms : List Bool). length ms) is ∙ (length-set old.marks place true ∙ marking.sized);
        before = passed;
        done = subst (λ (ws : List Wire). All (IsDone seen new.marks) ws) (sym kept)
            (All-weaker (IsDone seen old.marks) (IsDone seen new.marks)
            (λ w none. still_done (on w (left old.marks seen)) (on w (s ∷ [])) (on w (left new.marks seen)) (next w) none) old.done marking.done);
      };
      next = next;
    }

-- ## Nothing left on a wire

not_here : (t : Bool) (s : Seen) (xs : List Seen) → (t ≡ true → ⊥) → cond t (s ∷ xs) xs ≡ xs
not_here true s xs apart = absurd (apart refl)
not_here false s xs apart = refl

-- where all that has no mark is on another wire, nothing is left
pub none_left : (w : Wire) (marks : List Bool) (seen : List Seen)
    → ((k : ℕ) (s : Seen) → get_or marks k true ≡ false → slice_get seen k ≡ Some s → wire_of s ≡ w → ⊥)
    → length marks ≡ length seen → on w (left marks seen) ≡ []
none_left w [] [] free sized = refl
none_left w [] (s ∷ rest) free sized = absurd (omega (arith, sized))
none_left w (m ∷ marks) [] free sized = refl
none_left w (true ∷ marks) (s ∷ rest) free sized = none_left w marks rest (λ k x. free (suc k) x) (omega (arith, sized))
none_left w (false ∷ marks) (s ∷ rest) free sized =
    not_here (same_wire w (wire_of s)) s (on w (left marks rest)) (λ h. free 0 s refl refl (sym (same_wire-true w (wire_of s) h)))
    ∙ none_left w marks rest (λ k x. free (suc k) x) (omega (arith, sized))

-- marks that were set keep those before them
pub kept_marked : (marks : List Bool) (place from : ℕ) → AreMarked marks from → AreMarked (set marks place true) from
kept_marked [] place from m k lt = m k lt
kept_marked (t ∷ ts) zero from m zero lt = refl
kept_marked (t ∷ ts) zero from m (suc k) lt = m (suc k) lt
kept_marked (t ∷ ts) (suc place) from m zero lt = m zero lt
kept_marked (t ∷ ts) (suc place) zero m (suc k) lt = absurd (omega arith)
kept_marked (t ∷ ts) (suc place) (suc from) m (suc k) lt = kept_marked ts place from (λ i l. m (suc i) (omega arith)) k (omega arith)

-- an element that is there
pub here_is : (xs : List Seen) (i : ℕ) (x : Seen) → i < length xs → x ≡ get_or xs i x → slice_get xs i ≡ Some x
here_is [] i x lt is = absurd (omega arith)
here_is (y ∷ ys) zero x lt is = ap (λ (z : Seen). Some z) (sym is)
here_is (y ∷ ys) (suc i) x lt is = here_is ys i x (omega arith) is

-- one wire more is known to have nothing left
pub noted : (seen : List Seen) (old new : MarkState) (w : Wire) → IsMarking seen old → IsDone seen old.marks w → new.marks ≡ old.marks → new.from ≡ old.from
    → new.done ≡ old.done ++ w ∷ [] → IsMarking seen new
noted seen old new w m none marks from is =
    let more : All (IsDone seen old.marks) (old.done ++ w ∷ []) = All-push (IsDone seen old.marks) old.done w m.done none in
    let all : All (IsDone seen old.marks) new.done = subst (λ (ws : List Wire). All (IsDone seen old.marks) ws) (sym is) more in
    record {
      sized = ap (λ (ms : List Bool). length ms) marks ∙ m.sized;
      before = subst (λ (n : ℕ). AreMarked new.marks n) (sym from) (subst (λ (ms : List Bool). AreMarked ms old.from) (sym marks) m.before);
      done = subst (λ (ms : List Bool). All (IsDone seen ms) new.done) (sym marks) all;
    }
