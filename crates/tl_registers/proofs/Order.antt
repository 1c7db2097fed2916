-- The order of ways that Grants touch gives the way whose block was granted longest ago.
use Rattle.std.proofs.Common.{◌≡◌, ◌≢◌, ℕ, zero, suc, ◌+◌, ◌≤◌, ◌==◌, ◌&&◌, ◌||◌, not, Bool, true, false, List, [], ◌∷◌, ◌++◌, length, Option, Some, None, if◌then◌else◌, refl, sym, ◌∙◌, ap, subst, arith, inl, inr, eq-eqb, set, length-set, get_or-set_other}
use Rattle.std.proofs.Math.Bool.{or-true}
use Rattle.std.specs.Prelude.{◌⊎◌, find}
use Rattle.std.proofs.lemmas.Bool.{cases_eq, cases_Bool, eqb-false, ne_eqb}
use Rattle.tl_ways.proofs.OrderLaws.{among-end, among-front, among-either, among-without, without-among}
use Rattle.tl_ways.specs.Orders.{IsAmong, without_way}
use Rattle.tl_protocol.specs.declared.event.Event.{Event}
use Rattle.tl_protocol.specs.declared.event.Event.TheVariants.{SendGrant}
use Rattle.tl_registers.specs.VictimWay.{grants_block, last_grant_from, last_grant, IsNotAfter, block_in, IsNoLater, EachBefore, FirstInOrderIsOldest, FreeSetIsInOrder, GrantKeepsOrder, OtherEventsKeepOrder, PlacingKeepsOrder, ClearingKeepsOrder}

-- ## The last Grant of a block

-- a place in a log as a number: counted from 1, and 0 for none
abbrev place : Option ℕ → ℕ
place None = 0
place (Some n) = n + 1

-- where the last Grant of a block stands, as a number
abbrev granted_at : ℕ → List Event → ℕ
granted_at block log = place (last_grant block log)

-- one place is no later than another just where its number is no greater
not-after : (a b : Option ℕ) → place a ≤ place b → IsNotAfter a b
not-after None b l = tt
not-after (Some n) None l = omega (arith, l)
not-after (Some n) (Some m) l = omega (arith, l)

not-greater : (a b : Option ℕ) → IsNotAfter a b → place a ≤ place b
not-greater None b l = omega arith
not-greater (Some n) None l = absurd l
not-greater (Some n) (Some m) l = omega (arith, l)

-- counted on from some place in the log, one event more is the last Grant of its block, and leaves that of the others
last-append : (block n : ℕ) (found : Option ℕ) (es : List Event) (e : Event)
    → last_grant_from block n found (es ++ e ∷ [])
    ≡ (if grants_block block e then Some (n + length es) else last_grant_from block n found es)
last-append block n found [] e =
    elim (grants_block block e) as (λ t. (if t then Some n else found) ≡ (if t then Some (n + 0) else found)) [
      | true ↦ let z : n ≡ n + 0 = omega arith in ap Some z
      | false ↦ refl
    ]
last-append block n found (x ∷ es) e =
    let z : n + 1 + length es ≡ n + length (x ∷ es) = omega arith in
    rw (last-append block (n + 1) (if grants_block block x then Some n else found) es e, z) refl

-- one event more is the last Grant of its block
granted_at-this : (block : ℕ) (log : List Event) (e : Event) → grants_block block e ≡ true
    → granted_at block (log ++ e ∷ []) ≡ length log + 1
granted_at-this block log e t =
    let p : last_grant block (log ++ e ∷ []) ≡ Some (0 + length log) = last-append block 0 None log e ∙ rw t refl in
    let q : granted_at block (log ++ e ∷ []) ≡ 0 + length log + 1 = ap place p in
    omega (arith, q)

-- and leaves that of the others
last_grant-same : (block : ℕ) (log : List Event) (e : Event) → grants_block block e ≡ false
    → granted_at block (log ++ e ∷ []) ≡ granted_at block log
last_grant-same block log e n = ap place (last-append block 0 None log e ∙ rw n refl)

-- a place within the log, or that of one event more, is within the longer log
found-one : (t : Bool) (n : ℕ) (found : Option ℕ) → place found ≤ n → place (if t then Some n else found) ≤ n + 1
found-one true n found l = omega arith
found-one false n found l = omega (arith, l)

-- counted on from a place within the log, the last Grant stands within it
found-inside : (block n : ℕ) (found : Option ℕ) (log : List Event) → place found ≤ n
    → place (last_grant_from block n found log) ≤ n + length log
found-inside block n found [] l = omega (arith, l)
found-inside block n found (e ∷ es) l =
    let k = found-inside block (n + 1) (if grants_block block e then Some n else found) es (found-one (grants_block block e) n found l) in
    omega (arith, k)

-- no Grant stands past the end of the log
last_grant-inside : (block : ℕ) (log : List Event) → granted_at block log ≤ length log
last_grant-inside block log = omega (arith, found-inside block 0 None log (omega arith))

-- ## What is among the ways

-- what stays beside a way that leaves was there, and is another
stays-apart : (w v : ℕ) (order : List ℕ) → IsAmong v (without_way w order) → v ≢ w
stays-apart w v [] m = absurd m
stays-apart w v (x ∷ rest) m =
    elim (cases_Bool (x == w)) [
      | inl e ↦ let m2 : IsAmong v (without_way w rest) = (rw e at m) in stays-apart w v rest m2
      | inr e ↦
          let m2 : IsAmong v (x ∷ without_way w rest) = (rw e at m) in
          elim m2 [
            | inl q ↦ λ z. eqb-false x w e (sym q ∙ z)
            | inr q ↦ stays-apart w v rest q
          ]
    ]

-- ## What holds of each and all that come after it

-- what holds of a relation between these ways holds of another that follows from it
before-follows : (R Q : ℕ → ℕ → Type 0) (xs : List ℕ) → ((w v : ℕ) → IsAmong w xs → IsAmong v xs → R w v → Q w v)
    → EachBefore R xs → EachBefore Q xs
before-follows R Q [] f h = tt
before-follows R Q (x ∷ rest) f h = (
  λ v m. f x v (inl refl) (inr m) (h.0 v m),
  before-follows R Q rest (λ w v m n. f w v (inr m) (inr n)) h.1,
)

-- each still stands in the relation to all that come after it where a way is taken out
before-without : (R : ℕ → ℕ → Type 0) (w : ℕ) (xs : List ℕ) → EachBefore R xs → EachBefore R (without_way w xs)
before-without R w [] h = tt
before-without R w (x ∷ rest) h =
    elim (cases_Bool (x == w)) [
      | inl e ↦ rw e (before-without R w rest h.1)
      | inr e ↦ rw e (λ v m. h.0 v (without-among w v rest m), before-without R w rest h.1)
    ]

-- and where a way is put last to which each of the others stands in it
before-end : (R : ℕ → ℕ → Type 0) (w : ℕ) (xs : List ℕ) → EachBefore R xs → ((v : ℕ) → IsAmong v xs → R v w)
    → EachBefore R (xs ++ w ∷ [])
before-end R w [] h last = (λ v m. absurd m, tt)
before-end R w (x ∷ rest) h last = (
  λ v m. elim (among-either v w rest m) [
    | inr q ↦ h.0 v q
    | inl q ↦ let P : ℕ → Type 0 = λ y. R x y in subst P (sym q) (last x (inl refl))
  ],
  before-end R w rest h.1 (λ v m. last v (inr m)),
)

-- ## The first way that no register holds

-- the first way that no register holds stands in the relation to each other way that none holds
first-of : (R : ℕ → ℕ → Type 0) (held : ℕ → Bool) (order : List ℕ) (w : ℕ) → EachBefore R order
    → find (λ v. not (held v)) order ≡ Some w
    → IsAmong w order × (held w ≡ false) × ((v : ℕ) → IsAmong v order → held v ≡ false → (v ≡ w) ⊎ R w v)
first-of R held [] w r h = cc
first-of R held (x ∷ rest) w r h =
    elim (cases_Bool (held x)) [
      | inl e ↦
          let h2 : find (λ v. not (held v)) rest ≡ Some w = (rw e at h) in
          let k = first-of R held rest w r.1 h2 in
          (inr k.0, k.1, λ v. elim [ inl m ↦ λ n. let bad : true ≡ false = sym e ∙ (ap held (sym m) ∙ n) in cc | inr m ↦ λ n. k.2 v m n ])
      | inr e ↦
          let h2 : Some x ≡ Some w = (rw e at h) in
          let is : x ≡ w = cc in (
            inl (sym is),
            ap held (sym is) ∙ e,
            λ v. elim [ inl m ↦ λ n. inl (m ∙ is) | inr m ↦ λ n. inr (subst (λ (y : ℕ). R y v) is (r.0 v m)) ],
          )
    ]

-- the first way of the order that no register holds is the one granted longest ago
pub first-in-order-is-oldest : FirstInOrderIsOldest
first-in-order-is-oldest slots held filling log order w ordered holds h =
    let k = first-of (IsNoLater slots filling log) held order w ordered.rises h in
    let full : (v : ℕ) → held v ≡ false → filling v ≡ false =
    λ v n. elim (cases_Bool (filling v)) [ inl m ↦ let bad = holds v m in cc | inr m ↦ m ] in
    record {
      inside = ordered.only w k.0;
      not_held = k.1;
      oldest = λ v block other l n here there.
          elim (k.2 v (ordered.all v l) n) [
            | inl e ↦
                let both : Some block ≡ Some other = sym here ∙ (ap (block_in slots) (sym e) ∙ there) in
                let same : block ≡ other = cc in
                let q : granted_at block log ≡ granted_at other log = ap (λ b. granted_at b log) same in
                not-after (last_grant block log) (last_grant other log) (omega (arith, q))
            | inr r ↦ r block other (full w k.1) (full v n) here there
          ];
    }

-- ## What keeps the order

-- where all ways are free, the last Grants rise along any order of them
free-rises : (slots : List (Option ℕ)) (filling : ℕ → Bool) (log : List Event) (order : List ℕ)
    → ((w : ℕ) → block_in slots w ≡ None) → EachBefore (IsNoLater slots filling log) order
free-rises slots filling log [] free = tt
free-rises slots filling log (w ∷ rest) free =
    (λ v m block other f g here there. let none = free w in cc, free-rises slots filling log rest free)

-- a set whose ways are all free is in any order that has just its ways
pub free-set-is-in-order : FreeSetIsInOrder
free-set-is-in-order slots filling log order free all only =
    record { rises = free-rises slots filling log order free; all = all; only = only }

-- an event that grants no block of the set keeps the order
pub other-events-keep-order : OtherEventsKeepOrder
other-events-keep-order slots filling log order e ordered other = record {
  rises = before-follows (IsNoLater slots filling log) (IsNoLater slots filling (log ++ e ∷ [])) order
      (λ w v m n r block later f g here there.
      let p = last_grant-same block log e (other w block here) in
      let q = last_grant-same later log e (other v later there) in
      let k = not-greater (last_grant block log) (last_grant later log) (r block later f g here there) in
      not-after (last_grant block (log ++ e ∷ [])) (last_grant later (log ++ e ∷ [])) (omega (arith, p, q, k)))
      ordered.rises;
  all = ordered.all;
  only = ordered.only;
}

-- a Grant whose way is touched keeps the order
pub grant-keeps-order : GrantKeepsOrder
grant-keeps-order slots filling log order w block c ordered l is once =
    let e = SendGrant c block in
    let later : ℕ → Bool = λ v. filling v && not (v == w) in
    let before = IsNoLater slots filling log in
    let after = IsNoLater slots later (log ++ e ∷ []) in
    let not-this : (v b : ℕ) → v ≢ w → block_in slots v ≡ Some b → grants_block b e ≡ false =
    λ v b ne at. ne_eqb block b (λ q. ne (once w v is (at ∙ ap Some (sym q)))) in
    let was : (v : ℕ) → v ≢ w → later v ≡ false → filling v ≡ false =
    λ v ne f. let nv = ne_eqb v w ne in elim (cases_Bool (filling v)) [ inr q ↦ q | inl q ↦ let bad : later v ≡ true = rw (q, nv) refl in cc ] in
    let granted : granted_at block (log ++ e ∷ []) ≡ length log + 1 = granted_at-this block log e (eq-eqb block block refl) in
    record {
      rises =
          before-end after w (without_way w order)
          (before-follows before after (without_way w order)
          (λ u v m n r b d f g here there.
          let mu = stays-apart w u order m in
          let nv = stays-apart w v order n in
          let p = last_grant-same b log e (not-this u b mu here) in
          let q = last_grant-same d log e (not-this v d nv there) in
          let k = not-greater (last_grant b log) (last_grant d log) (r b d (was u mu f) (was v nv g) here there) in
          not-after (last_grant b (log ++ e ∷ [])) (last_grant d (log ++ e ∷ [])) (omega (arith, p, q, k)))
          (before-without before w order ordered.rises))
          (λ v m b d f g here there.
          let ne = stays-apart w v order m in
          let p = last_grant-same b log e (not-this v b ne here) in
          let in_log = last_grant-inside b log in
          let both : Some block ≡ Some d = sym is ∙ there in
          let same : block ≡ d = cc in
          let q : granted_at d (log ++ e ∷ []) ≡ granted_at block (log ++ e ∷ []) = ap (λ y. granted_at y (log ++ e ∷ [])) (sym same) in
          not-after (last_grant b (log ++ e ∷ [])) (last_grant d (log ++ e ∷ [])) (omega (arith, p, q, in_log, granted)));
      all = λ v m. elim (cases_eq v w) [
        | inl q ↦ subst (λ (y : ℕ). IsAmong y (without_way w order ++ w ∷ [])) (sym q) (among-end w (without_way w order))
        | inr q ↦ among-front v w (without_way w order) (among-without w v order q (ordered.all v m))
      ];
      only = λ v m. elim (among-either v w (without_way w order) m) [
        | inr q ↦ ordered.only v (without-among w v order q)
        | inl q ↦ omega (arith, q)
      ];
    }

-- ## What stands in a way after a change

-- another way keeps its block
block_in-other : (slots : List (Option ℕ)) (w v : ℕ) (x : Option ℕ) → v ≢ w → block_in (set slots w x) v ≡ block_in slots v
block_in-other slots w v x ne = get_or-set_other slots w v x None ne

-- a way that is emptied has no block
block_in-cleared : (slots : List (Option ℕ)) (w : ℕ) → block_in (set slots w None) w ≡ None
block_in-cleared [] w = refl
block_in-cleared (x ∷ slots) zero = refl
block_in-cleared (x ∷ slots) (suc w) = block_in-cleared slots w

-- a block that comes into a way keeps the order
pub placing-keeps-order : PlacingKeepsOrder
placing-keeps-order slots filling log order w block ordered =
    let later : ℕ → Bool = λ v. filling v || (v == w) in
    let long : length (set slots w (Some block)) ≡ length slots = simp length-set in
    let was : (v : ℕ) → later v ≡ false → (v ≢ w) × (filling v ≡ false) =
    λ v f. (
      λ q. let t = eq-eqb v w q in let bad : later v ≡ true = rw t (or-true (filling v)) in cc,
      elim (cases_Bool (filling v)) [ inr q ↦ q | inl q ↦ let bad : later v ≡ true = rw q refl in cc ],
    ) in
    record {
      rises = before-follows (IsNoLater slots filling log) (IsNoLater (set slots w (Some block)) later log) order
          (λ u v m n r b d f g here there.
          let fu = was u f in
          let gv = was v g in
          r b d fu.1 gv.1 (sym (block_in-other slots w u (Some block) fu.0) ∙ here) (sym (block_in-other slots w v (Some block) gv.0) ∙ there))
          ordered.rises;
      all = λ v m. ordered.all v (omega (arith, long));
      only = λ v m. omega (arith, long, ordered.only v m);
    }

-- a way that is emptied keeps the order
pub clearing-keeps-order : ClearingKeepsOrder
clearing-keeps-order slots filling log order w ordered =
    let long : length (set slots w None) ≡ length slots = simp length-set in
    let other : (v b : ℕ) → block_in (set slots w None) v ≡ Some b → block_in slots v ≡ Some b =
    λ v b h. elim (cases_eq v w) [
      | inl q ↦ let none : block_in (set slots w None) v ≡ None = ap (block_in (set slots w None)) q ∙ block_in-cleared slots w in cc
      | inr q ↦ sym (block_in-other slots w v None q) ∙ h
    ] in
    record {
      rises = before-follows (IsNoLater slots filling log) (IsNoLater (set slots w None) filling log) order
          (λ u v m n r b d f g here there. r b d f g (other u b here) (other v d there))
          ordered.rises;
      all = λ v m. ordered.all v (omega (arith, long));
      only = λ v m. omega (arith, long, ordered.only v m);
    }
