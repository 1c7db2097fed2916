-- Calls that are made one after another, and events that are told one after another.
use Rattle.std.proofs.Common.{◌≡◌, ◌≢◌, ℕ, zero, suc, ◌+◌, ◌<◌, min, List, [], ◌∷◌, ◌++◌, length, map, take, drop, get_or, set, Some, slice_get, refl, sym, ◌∙◌, ap, subst, append_assoc, arith}
use Rattle.std.proofs.lemmas.List.{drop-set-lt, length-map, length-take, map_more}
use Rattle.std.proofs.lemmas.Option.{same_Some, slice_get-get_or}
use Rattle.std.proofs.Math.Seq.{drop-cons, set-append_seam}
use Rattle.tl_embed.specs.Calls.{Calls}
use Rattle.tl_embed.specs.Histories.{AreCalls}
use Rattle.tl_embed.specs.Many.{CallsMany, askings, status_at}
use Rattle.tl_embed.specs.declared.answer.Answer.{Answer}
use Rattle.tl_embed.specs.declared.cache.Cache.{Cache}
use Rattle.tl_embed.specs.declared.request.Request.{Request}

-- ## Calls

-- the calls so far, each of which was answered with 0
pub record SoFar (old : Cache) (requests : List Request) (before : List Answer) (now : Cache) (answers : List Answer) (place : ℕ) : Type 0 where
  pub calls : AreCalls old (askings (take place requests) (take place answers)) now
  pub behind : drop place answers ≡ drop place before
  pub done : (k : ℕ) → k < place → status_at answers k ≡ 0

-- none so far
pub none-so-far : (old : Cache) (requests : List Request) (before : List Answer) → SoFar old requests before old before 0
none-so-far old requests before = record { calls = refl; behind = refl; done = λ k below. absurd (omega (arith, below)) }

-- one call more
pub calls-next : (old mid new : Cache) (requests : List Request) (answers : List Answer) (place : ℕ) (r : Request) (told : Answer)
    → AreCalls old (askings (take place requests) (take place answers)) mid → slice_get requests place ≡ Some r → place < length answers
    → Calls mid r new told → AreCalls old (askings (take (suc place) requests) (take (suc place) (set answers place told))) new
calls-next old mid new [] answers place r told so_far at inside call = cc
calls-next old mid new (q ∷ requests) [] place r told so_far at inside call = absurd (omega (arith, inside))
calls-next old mid new (q ∷ requests) (a ∷ answers) zero r told so_far at inside call =
    let same : r ≡ q = sym (same_Some _ _ at) in
    (new, subst (λ (c : Cache). Calls c q new told) so_far (subst (λ (x : Request). Calls mid x new told) same call), refl)
calls-next old mid new (q ∷ requests) (a ∷ answers) (suc place) r told so_far at inside call =
    (so_far.0, so_far.1, calls-next so_far.0 mid new requests answers place r told so_far.2 at (omega (arith, inside)) call)

-- what lies behind the next place
pub behind-next : (answers before : List Answer) (place : ℕ) (told : Answer) → place < length answers → place < length before
    → drop place answers ≡ drop place before → drop (suc place) (set answers place told) ≡ drop (suc place) before
behind-next answers before place told inside within same =
    let next : place < suc place = omega arith in
    let kept = drop-set-lt (suc place) answers place told next in
    let one = drop-cons answers place told inside in
    let two = drop-cons before place told within in
    cc

-- the status of the answer at a place
pub status-here : (answers : List Answer) (place : ℕ) (told : Answer) → place < length answers → status_at (set answers place told) place ≡ told.status
status-here [] place told inside = absurd (omega (arith, inside))
status-here (a ∷ answers) zero told inside = refl
status-here (a ∷ answers) (suc place) told inside = status-here answers place told (omega (arith, inside))

-- and of one before it
pub status-before : (answers : List Answer) (k place : ℕ) (told : Answer) → k < place → status_at (set answers place told) k ≡ status_at answers k
status-before [] k place told below = refl
status-before (a ∷ answers) k zero told below = absurd (omega (arith, below))
status-before (a ∷ answers) zero (suc place) told below = refl
status-before (a ∷ answers) (suc k) (suc place) told below = status-before answers k place told (omega (arith, below))

-- each is answered with 0 up to one that is
done-next : (answers : List Answer) (place : ℕ) (told : Answer) → place < length answers → told.status ≡ 0
    → ((k : ℕ) → k < place → status_at answers k ≡ 0) → (k : ℕ) → k < suc place → status_at (set answers place told) k ≡ 0
done-next [] place told inside zero_told done k below = absurd (omega (arith, inside))
done-next (a ∷ answers) zero told inside zero_told done zero below = zero_told
done-next (a ∷ answers) zero told inside zero_told done (suc k) below = absurd (omega (arith, below))
done-next (a ∷ answers) (suc place) told inside zero_told done zero below = done 0 (omega arith)
done-next (a ∷ answers) (suc place) told inside zero_told done (suc k) below =
    done-next answers place told (omega (arith, inside)) zero_told (λ j less. done (suc j) (omega (arith, less))) k (omega (arith, below))

-- the calls so far, and one more that was answered with 0
pub so-far-next : (old mid new : Cache) (requests : List Request) (before answers : List Answer) (place : ℕ) (d : Request) (told : Answer)
    → SoFar old requests before mid answers place → place < length requests → place < length answers → place < length before
    → Calls mid (get_or requests place d) new told → told.status ≡ 0 → SoFar old requests before new (set answers place told) (place + 1)
so-far-next old mid new requests before answers place d told so_far asked inside within call zero_told =
    let next : suc place ≡ place + 1 = omega arith in
    subst (λ (n : ℕ). SoFar old requests before new (set answers place told) n) next
    (record {
      calls =
          calls-next old mid new requests answers place (get_or requests place d) told so_far.calls (slice_get-get_or requests place d asked)
          inside call;
      behind = behind-next answers before place told inside within so_far.behind;
      done = done-next answers place told inside zero_told so_far.done;
    })

-- one that was answered otherwise ends them
pub ends-early : (old mid new : Cache) (requests : List Request) (before answers : List Answer) (place : ℕ) (d : Request) (told : Answer)
    → SoFar old requests before mid answers place → place < length answers → place < min (length requests) (length before)
    → Calls mid (get_or requests place d) new told → told.status ≢ 0
    → CallsMany old requests before new (set answers place told) (place + 1)
ends-early old mid new requests before answers place d told so_far inside within call refused =
    let next : suc place ≡ place + 1 = omega arith in
    let asked : place < length requests = omega arith in
    let there : place < length before = omega arith in
    record {
      calls =
          subst (λ (n : ℕ). AreCalls old (askings (take n requests) (take n (set answers place told))) new) next
          (calls-next old mid new requests answers place (get_or requests place d) told so_far.calls (slice_get-get_or requests place d asked)
          inside call);
      within = omega arith;
      behind =
          subst (λ (n : ℕ). drop n (set answers place told) ≡ drop n before) next
          (behind-next answers before place told inside there so_far.behind);
      went_on = λ k less.
          let below : k < place = omega (arith, less) in status-before answers k place told below ∙ so_far.done k below;
      ended = λ more. (place, refl, λ zero_told. refused (sym (status-here answers place told inside) ∙ zero_told));
    }

-- all were answered with 0
pub ends-all : (old now : Cache) (requests : List Request) (before answers : List Answer) (made : ℕ)
    → SoFar old requests before now answers made → made ≡ min (length requests) (length before) → CallsMany old requests before now answers made
ends-all old now requests before answers made so_far all = record {
  calls = so_far.calls;
  within = omega arith;
  behind = so_far.behind;
  went_on = λ k less. so_far.done k (omega (arith, less));
  ended = λ more. absurd (omega (arith, more, all));
}

-- ## Events

-- one event more
pub told-next : {E : Type 0} (tell : E → Answer) (events : List E) (before answers : List Answer) (place : ℕ) (e : E)
    → place < length events → place < length before → answers ≡ map tell (take place events) ++ drop place before
    → set answers place (tell (get_or events place e)) ≡ map tell (take (place + 1) events) ++ drop (place + 1) before
told-next tell events before answers place e inside within so_far =
    let x : Answer = tell (get_or events place e) in
    let front : List Answer = map tell (take place events) in
    let rest : List Answer = drop (suc place) before in
    let count : length front ≡ place = omega (arith, length-map (take place events) tell, length-take place events) in
    let next : suc place ≡ place + 1 = omega arith in
    ap (λ (l : List Answer). set l place x) (so_far ∙ ap (λ (l : List Answer). front ++ l) (drop-cons before place x within))
    ∙ (subst (λ (n : ℕ). set (front ++ get_or before place x ∷ rest) n x ≡ front ++ x ∷ rest) count
    (set-append_seam front (get_or before place x) rest x)
    ∙ (sym (append_assoc front (x ∷ []) rest)
    ∙ (ap (λ (l : List Answer). l ++ rest) (sym (map_more tell events place e inside))
    ∙ ap (λ (n : ℕ). map tell (take (place + 1) events) ++ drop n before) next)))
