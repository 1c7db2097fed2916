-- Each step on a bell's word keeps its rule.
use Rattle.std.proofs.Common.{◌≡◌, ◌≢◌, ℕ, zero, suc, ◌+◌, ◌-◌, ◌*◌, ◌%◌, ◌^◌, ◌<◌, ◌≤◌, List, [], ◌∷◌, ◌++◌, length, set, get_or, sym, refl, ap, ◌∙◌, subst, ⊎_elim, arith}
use Rattle.std.specs.List.{AllByRecursion}
use Rattle.std.specs.List.{All, sum_by}
use Rattle.std.proofs.lemmas.List.Sums.{sum_by-cons, sum_by_push}
use mathlib.Core.Option.{some, some-injective, some-ne-none}
use lib.ListN.{get_elem?}
use Rattle.atomic_table.specs.Table.{Me, Allows, Splits, Joins, opening}
use Rattle.atomic_table.specs.Table.Act.{keeps}
use Rattle.crossbeam_queue.proofs.Lists.{at_set, set_again}
use Rattle.tl_tickets.specs.declared.tally.Tally.{Tally}
use Rattle.tl_tickets.specs.Bell.{SeatView, rings_of, most_rings}
use Rattle.tl_tickets.specs.Ringing.{tally, fewer, one_seat, both_tallies, gathered_tallies, all_rung, CountsRings, RungOnce, Hears, HearsAll}
use Rattle.tl_tickets.proofs.Each.{AllByRecursion-weaker, AllByRecursion-append, AllByRecursion-left, AllByRecursion-right, All-from_each, AllByRecursion-from_all}

module _ {X : Type 0} where
  -- the sum, after a change of one element
  sum_set : (f : X → ℕ) (xs : List X) (i : ℕ) (x y : X) → get_elem? xs i ≡ some x → sum_by f (set xs i y) + f x ≡ sum_by f xs + f y
  sum_set f [] i x y e = absurd (some-ne-none x (sym e))
  sum_set f (z ∷ zs) zero x y e =
      let a = sum_by-cons f y zs in
      let b = sum_by-cons f z zs in
      let c = ap f (some-injective z x e) in omega arith
  sum_set f (z ∷ zs) (suc i) x y e =
      let a = sum_by-cons f z (set zs i y) in
      let b = sum_by-cons f z zs in
      let c = sum_set f zs i x y e in omega arith

  -- each element, after a change of one
  AllByRecursion-set : (P : X → Type 0) (xs : List X) (i : ℕ) (y : X) → P y → AllByRecursion P xs → AllByRecursion P (set xs i y)
  AllByRecursion-set P [] i y h each = tt
  AllByRecursion-set P (x ∷ xs) zero y h each = (h, each.1)
  AllByRecursion-set P (x ∷ xs) (suc i) y h each = (each.0, AllByRecursion-set P xs i y h each.1)

  -- what holds of each holds of the one at a place
  AllByRecursion-at : (P : X → Type 0) (xs : List X) (i : ℕ) (x : X) → get_elem? xs i ≡ some x → AllByRecursion P xs → P x
  AllByRecursion-at P [] i x e each = absurd (some-ne-none x (sym e))
  AllByRecursion-at P (z ∷ zs) zero x e each = subst P (some-injective z x e) each.0
  AllByRecursion-at P (z ∷ zs) (suc i) x e each = AllByRecursion-at P zs i x e each.1

  -- one summand is within the sum
  sum_at : (f : X → ℕ) (xs : List X) (i : ℕ) (x : X) → get_elem? xs i ≡ some x → f x ≤ sum_by f xs
  sum_at f [] i x e = absurd (some-ne-none x (sym e))
  sum_at f (z ∷ zs) zero x e = let a = sum_by-cons f z zs in let b = ap f (some-injective z x e) in omega arith
  sum_at f (z ∷ zs) (suc i) x e = let a = sum_by-cons f z zs in let b = sum_at f zs i x e in omega arith

-- how often some seats rang
abbrev rung : Tally → ℕ
rung v = v.rung

-- how many seats stand together
abbrev parts : Tally → ℕ
parts v = v.parts

-- they rang no more often than so many seats may
abbrev Bound : Tally → Type 0
Bound v = v.rung ≤ most_rings * v.parts

-- the most that they have seen is within a number
abbrev Below : ℕ → Tally → Type 0
Below n v = v.seen ≤ n

-- all seats together rang within their parts
all_bounded : (vs : List Tally) → AllByRecursion Bound vs → all_rung vs ≤ most_rings * sum_by parts vs
all_bounded [] h = omega arith
all_bounded (v ∷ vs) h =
    let a = sum_by-cons rung v vs in
    let b = sum_by-cons parts v vs in
    let c = all_bounded vs h.1 in
    let d = h.0 in omega arith

-- what the others rang is within their parts
others_bounded : (vs : List Tally) (i : ℕ) (v : Tally) → get_elem? vs i ≡ some v → AllByRecursion Bound vs → all_rung vs + most_rings * v.parts ≤ v.rung + most_rings * sum_by parts vs
others_bounded [] i v e h = absurd (some-ne-none v (sym e))
others_bounded (z ∷ zs) zero v e h =
    let is = some-injective z v e in
    let a = sum_by-cons rung z zs in
    let b = sum_by-cons parts z zs in
    let c = all_bounded zs h.1 in
    let d = ap rung is in
    let f = ap parts is in omega arith
others_bounded (z ∷ zs) (suc i) v e h =
    let a = sum_by-cons rung z zs in
    let b = sum_by-cons parts z zs in
    let c = others_bounded zs i v e h.1 in
    let d = h.0 in omega arith

-- a new bell keeps the rule
pub opens : (n : ℕ) → n ≤ 64 → CountsRings n (opening (0 ∷ []) [] (tally n 0 0))
opens n few = record { word = refl; parts = omega arith; bound = (omega arith, tt); seen = (omega arith, tt); few = few }

-- a ring keeps it
pub rings : (n slots id : ℕ) (me : Me (Unit {0}) Tally) → me.0.parts ≡ 1 → me.0.rung < most_rings → Allows (CountsRings n) slots id me 0 (λ k. (k + 1) % 2 ^ 64) (λ found after. RungOnce me after)
rings n slots id me one short s rule len at small =
    let v = me.0 in
    let w : Tally = record v { rung = v.rung + 1 } in
    let vs = set s.views id w in
    let a : all_rung vs + v.rung ≡ all_rung s.views + (v.rung + 1) = sum_set rung s.views id v w at in
    let b : sum_by parts vs + v.parts ≡ sum_by parts s.views + v.parts = sum_set parts s.views id v w at in
    let c = all_bounded s.views rule.bound in
    let d = rule.parts in
    let f = rule.few in
    let mine : v.seen ≤ all_rung s.views = AllByRecursion-at (Below (all_rung s.views)) s.views id v at rule.seen in
    let next : (all_rung s.views + 1) % 2 ^ 64 ≡ all_rung vs = omega arith in (
      w,
      keeps,
      tt,
      record {
        word = ap (λ l. set l 0 ((get_or l 0 0 + 1) % 2 ^ 64)) rule.word ∙ ap (λ k. k ∷ []) next;
        parts = omega arith;
        bound = AllByRecursion-set Bound s.views id w (omega arith) rule.bound;
        seen = AllByRecursion-set (Below (all_rung vs)) s.views id w (omega arith) (AllByRecursion-weaker (Below (all_rung s.views)) (Below (all_rung vs)) (λ u h. omega arith) s.views rule.seen);
        few = f;
      },
      refl,
    )

-- a look keeps it, and finds no less than the seat had seen and rung
pub hears : (n slots id : ℕ) (me : Me (Unit {0}) Tally) → Allows (CountsRings n) slots id me 0 (λ k. k) (Hears me)
hears n slots id me s rule len at small =
    let v = me.0 in
    let found = get_or s.words 0 0 in
    let is : found ≡ all_rung s.views = ap (λ l. get_or l 0 0) rule.word in
    let w : Tally = record v { seen = found } in
    let vs = set s.views id w in
    let a : all_rung vs + v.rung ≡ all_rung s.views + v.rung = sum_set rung s.views id v w at in
    let b : sum_by parts vs + v.parts ≡ sum_by parts s.views + v.parts = sum_set parts s.views id v w at in
    let same : all_rung s.views ≡ all_rung vs = omega arith in
    let mine = AllByRecursion-at (Below (all_rung s.views)) s.views id v at rule.seen in
    let own = sum_at rung s.views id v at in (
      w,
      keeps,
      tt,
      record {
        word = ap (λ l. set l 0 (get_or l 0 0)) rule.word ∙ ap (λ k. k ∷ []) same;
        parts = let p = rule.parts in omega arith;
        bound = AllByRecursion-set Bound s.views id w (AllByRecursion-at Bound s.views id v at rule.bound) rule.bound;
        seen = AllByRecursion-set (Below (all_rung vs)) s.views id w (omega arith) (AllByRecursion-weaker (Below (all_rung s.views)) (Below (all_rung vs)) (λ u h. omega arith) s.views rule.seen);
        few = rule.few;
      },
      (omega arith, omega arith, refl),
    )

-- a look with all seats finds what they rang
pub hears_all : (n slots id : ℕ) (me : Me (Unit {0}) Tally) → me.0.parts ≡ n → Allows (CountsRings n) slots id me 0 (λ k. k) (HearsAll me)
hears_all n slots id me all s rule len at small =
    let v = me.0 in
    let found = get_or s.words 0 0 in
    let is : found ≡ all_rung s.views = ap (λ l. get_or l 0 0) rule.word in
    let vs = set s.views id v in
    let same : s.views ≡ vs = sym (set_again s.views id v at) in
    let mine = AllByRecursion-at (Below (all_rung s.views)) s.views id v at rule.seen in
    let own = sum_at rung s.views id v at in
    let others = others_bounded s.views id v at rule.bound in
    let p = rule.parts in (
      v,
      keeps,
      tt,
      record {
        word = ap (λ l. set l 0 (get_or l 0 0)) rule.word ∙ ap (λ us. all_rung us ∷ []) same;
        parts = subst (λ us. sum_by parts us ≡ n) same p;
        bound = subst (AllByRecursion Bound) same rule.bound;
        seen = subst (λ us. AllByRecursion (Below (all_rung us)) us) same rule.seen;
        few = rule.few;
      },
      (omega arith, omega arith, refl),
    )

-- a new seat keeps it
pub splits : (n id : ℕ) (v : Tally) → v.rung ≡ 0 → 0 < v.parts → Splits (CountsRings n) id v (fewer v) one_seat
splits n id v silent some_parts s rule at =
    let w = fewer v in
    let us = set s.views id w in
    let vs = us ++ one_seat ∷ [] in
    let a : all_rung us + v.rung ≡ all_rung s.views + v.rung = sum_set rung s.views id v w at in
    let b : sum_by parts us + v.parts ≡ sum_by parts s.views + (v.parts - 1) = sum_set parts s.views id v w at in
    let c : all_rung vs ≡ all_rung us + 0 = sum_by_push rung us one_seat in
    let d : sum_by parts vs ≡ sum_by parts us + 1 = sum_by_push parts us one_seat in
    let same : all_rung s.views ≡ all_rung vs = omega arith in
    let mine = AllByRecursion-at (Below (all_rung s.views)) s.views id v at rule.seen in
    let p = rule.parts in
    record {
      word = rule.word ∙ ap (λ k. k ∷ []) same;
      parts = omega arith;
      bound = AllByRecursion-append Bound us (one_seat ∷ []) (AllByRecursion-set Bound s.views id w (omega arith) rule.bound) (omega arith, tt);
      seen = AllByRecursion-append (Below (all_rung vs)) us (one_seat ∷ []) (AllByRecursion-set (Below (all_rung vs)) s.views id w (omega arith) (AllByRecursion-weaker (Below (all_rung s.views)) (Below (all_rung vs)) (λ u h. omega arith) s.views rule.seen)) (omega arith, tt);
      few = rule.few;
    }

-- two seats joined keep it
pub joins : (n id : ℕ) (v : Tally) (other : ℕ) (w : Tally) → Joins (CountsRings n) id v other w (both_tallies v w) (tally 0 0 0)
joins n id v other w s rule at apart at' =
    let x = both_tallies v w in
    let y = tally 0 0 0 in
    let us = set s.views id x in
    let vs = set us other y in
    let was : get_elem? s.views other ≡ some w = ⊎_elim (λ (z : (other ≡ id) × (x ≡ w)). absurd (apart z.0)) (λ (z : (other ≢ id) × (get_elem? s.views other ≡ some w)). z.1) (at_set s.views id other x w at') in
    let a : all_rung us + v.rung ≡ all_rung s.views + (v.rung + w.rung) = sum_set rung s.views id v x at in
    let b : sum_by parts us + v.parts ≡ sum_by parts s.views + (v.parts + w.parts) = sum_set parts s.views id v x at in
    let c : all_rung vs + w.rung ≡ all_rung us + 0 = sum_set rung us other w y at' in
    let d : sum_by parts vs + w.parts ≡ sum_by parts us + 0 = sum_set parts us other w y at' in
    let same : all_rung s.views ≡ all_rung vs = omega arith in
    let mine = AllByRecursion-at (Below (all_rung s.views)) s.views id v at rule.seen in
    let theirs = AllByRecursion-at (Below (all_rung s.views)) s.views other w was rule.seen in
    let e = AllByRecursion-at Bound s.views id v at rule.bound in
    let f = AllByRecursion-at Bound s.views other w was rule.bound in
    let p = rule.parts in
    record {
      word = rule.word ∙ ap (λ k. k ∷ []) same;
      parts = omega arith;
      bound = AllByRecursion-set Bound us other y (omega arith) (AllByRecursion-set Bound s.views id x (omega arith) rule.bound);
      seen = AllByRecursion-set (Below (all_rung vs)) us other y (omega arith) (AllByRecursion-set (Below (all_rung vs)) s.views id x (omega arith) (AllByRecursion-weaker (Below (all_rung s.views)) (Below (all_rung vs)) (λ u h. omega arith) s.views rule.seen));
      few = rule.few;
    }

-- all seats together have their number of parts
gathered_parts : (ss : List SeatView) → (gathered_tallies ss).parts ≡ length ss
gathered_parts [] = refl
gathered_parts (s ∷ ss) = let a = gathered_parts ss in omega arith

-- they rang what each rang
gathered_rung : (ss : List SeatView) → (gathered_tallies ss).rung ≡ rings_of ss
gathered_rung [] = refl
gathered_rung (s ∷ ss) = let a = gathered_rung ss in let b = sum_by-cons (λ (t : SeatView). t.rung) s ss in omega arith

-- none has seen more than all
gathered_seen : (ss : List SeatView) → AllByRecursion (λ (s : SeatView). s.seen ≤ (gathered_tallies ss).seen) ss
gathered_seen [] = tt
gathered_seen (s ∷ ss) = (omega arith, AllByRecursion-weaker (λ (t : SeatView). t.seen ≤ (gathered_tallies ss).seen) (λ (t : SeatView). t.seen ≤ (gathered_tallies (s ∷ ss)).seen) (λ t h. omega arith) ss (gathered_seen ss))

-- the seats together have as many parts as there are seats
pub all_parts : (ss : List SeatView) (me : Me (Unit {0}) Tally) (n : ℕ) → me ≡ (gathered_tallies ss, []) → length ss ≡ n → me.0.parts ≡ n
all_parts ss me n is few = ap (λ m. m.0.parts) is ∙ gathered_parts ss ∙ few

-- no seat has seen more than all rang
pub none_more : (ss : List SeatView) (me : Me (Unit {0}) Tally) (found total : ℕ) → me ≡ (gathered_tallies ss, []) → total ≡ rings_of ss → (after : Me (Unit {0}) Tally) → HearsAll me found after → All (λ (s : SeatView). s.seen ≤ total) ss
none_more ss me found total is sum after heard =
    let a = ap (λ m. m.0.seen) is in
    let b : me.0.rung ≡ rings_of ss = ap (λ m. m.0.rung) is ∙ gathered_rung ss in
    let c = heard.0 in
    let d = heard.1 in
    All-from_each (λ (s : SeatView). s.seen ≤ total) ss (AllByRecursion-weaker (λ (s : SeatView). s.seen ≤ (gathered_tallies ss).seen) (λ (s : SeatView). s.seen ≤ total) (λ s h. omega arith) ss (gathered_seen ss))

-- the last seat before those that are done
pub last_of : (P : SeatView → Type 0) (all rest new done : List SeatView) (s : SeatView) → All P all → all ≡ rest ++ done → rest ≡ new ++ s ∷ [] → P s
last_of P all rest new done s each is more =
    let whole = AllByRecursion-from_all P all each in
    (AllByRecursion-right P new (s ∷ []) (subst (AllByRecursion P) more (AllByRecursion-left P rest done (subst (AllByRecursion P) is whole)))).0
