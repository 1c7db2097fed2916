-- A walk along the lines of a record.
use Rattle.std.proofs.Common.{◌≡◌, ◌<◌, ◌≤◌, ◌+◌, ℕ, zero, suc, Bool, true, false, cond, List, [], ◌∷◌, ◌++◌, take, drop, length, get_or, Some, slice_get, refl, sym, ap, subst, ◌∙◌, arith, add-one}
use Rattle.tl_protocol.specs.declared.shape.Shape.{Shape}
use Rattle.tlwire_search.specs.declared.seen.Seen.{Seen}
use Rattle.tlwire_pins.proofs.Impossible.{every_line}
use Rattle.tlwire_pins.proofs.Leads.{joined}
use Rattle.tlwire_pins.proofs.Unseen.{may_first}
use Rattle.tlwire_pins.specs.Impossible.{IsImpossible}
use Rattle.tlwire_pins.specs.Judged.{EachMay}
use Rattle.tlwire_pins.specs.Pins.{is_own, own}
use Rattle.tlwire_pins.specs.View.{MayBeSeen, after_seen, fresh, led_by}
use Rattle.tlwire_pins.specs.Walk.{AllMay, Steps, StepsAt}
use Rattle.tlwire_pins.specs.declared.view.Tap.{Tap}
use Rattle.tlwire_pins.specs.declared.view.View.{View}

-- some lines lead to what a client holds of each block, and each may be seen
pub record Walked (tap : Tap) (shape : Shape) (c : ℕ) (xs : List Seen) (views : ℕ → View) : Type 0 where
  pub led : (block : ℕ) → views block ≡ led_by tap shape fresh (own shape c block xs)
  pub may : (block : ℕ) → AllMay tap shape fresh (own shape c block xs)

-- no lines
pub none_walked : (tap : Tap) (shape : Shape) (c : ℕ) (views : ℕ → View) → ((block : ℕ) → views block ≡ fresh) → Walked tap shape c [] views
none_walked tap shape c views h = record { led = h; may = λ block. tt }

-- one line more
led_more : (tap : Tap) (shape : Shape) (v : View) (xs : List Seen) (x : Seen)
    → led_by tap shape v (xs ++ x ∷ []) ≡ after_seen tap shape (led_by tap shape v xs) x
led_more tap shape v [] x = refl
led_more tap shape v (y ∷ ys) x = led_more tap shape (after_seen tap shape v y) ys x

may_more : (tap : Tap) (shape : Shape) (v : View) (xs : List Seen) (x : Seen) → AllMay tap shape v xs → MayBeSeen tap shape (led_by tap shape v xs) x
    → AllMay tap shape v (xs ++ x ∷ [])
may_more tap shape v [] x all m = (m, tt)
may_more tap shape v (y ∷ ys) x all m = (all.0, may_more tap shape (after_seen tap shape v y) ys x all.1 m)

-- what is of a block, of a line
abbrev of_line : Bool → Seen → List Seen
of_line t x = cond t (x ∷ []) []

of_one : (shape : Shape) (c block : ℕ) (x : Seen) → own shape c block (x ∷ []) ≡ of_line (is_own shape c block x) x
of_one shape c block x = refl

pub nil_more : (xs : List Seen) → xs ++ [] ≡ xs
nil_more [] = refl
nil_more (x ∷ xs) = ap (λ (ys : List Seen). x ∷ ys) (nil_more xs)

step_led : (tap : Tap) (shape : Shape) (t : Bool) (x : Seen) (v w : View) (xs : List Seen) → StepsAt tap shape x t v w
    → v ≡ led_by tap shape fresh xs → w ≡ led_by tap shape fresh (xs ++ of_line t x)
step_led tap shape true x v w xs s e = s.1 ∙ (ap (λ (u : View). after_seen tap shape u x) e ∙ sym (led_more tap shape fresh xs x))
step_led tap shape false x v w xs s e = s ∙ (e ∙ ap (λ (ys : List Seen). led_by tap shape fresh ys) (sym (nil_more xs)))

step_may : (tap : Tap) (shape : Shape) (t : Bool) (x : Seen) (v w : View) (xs : List Seen) → StepsAt tap shape x t v w
    → v ≡ led_by tap shape fresh xs → AllMay tap shape fresh xs → AllMay tap shape fresh (xs ++ of_line t x)
step_may tap shape true x v w xs s e all = may_more tap shape fresh xs x all (subst (λ (u : View). MayBeSeen tap shape u x) e s.0)
step_may tap shape false x v w xs s e all = subst (λ (ys : List Seen). AllMay tap shape fresh ys) (sym (nil_more xs)) all

pub walked_more : (tap : Tap) (shape : Shape) (c : ℕ) (xs : List Seen) (x : Seen) (old new : ℕ → View) → Walked tap shape c xs old
    → Steps tap shape c x old new → Walked tap shape c (xs ++ x ∷ []) new
walked_more tap shape c xs x old new h s =
    record {
      led = λ block.
          step_led tap shape (is_own shape c block x) x (old block) (new block) (own shape c block xs) (s block) (h.led block)
          ∙ ap (λ (ys : List Seen). led_by tap shape fresh ys) (sym (joined shape c block xs (x ∷ [])));
      may = λ block.
          subst (λ (ys : List Seen). AllMay tap shape fresh ys) (sym (joined shape c block xs (x ∷ [])))
          (step_may tap shape (is_own shape c block x) x (old block) (new block) (own shape c block xs) (s block) (h.led block) (h.may block));
    }

-- a line that is of a block stands between those before it and those behind it
own_first : (shape : Shape) (c block : ℕ) (x : Seen) (rest : List Seen) → is_own shape c block x ≡ true → own shape c block (x ∷ rest) ≡ x ∷ own shape c block rest
own_first shape c block x rest e = ap (λ (t : Bool). cond t (x ∷ own shape c block rest) (own shape c block rest)) e

-- where a line may not be seen, no lawful run is seen so
pub is_impossible : (tap : Tap) (shape : Shape) (c block : ℕ) (before rest : List Seen) (x : Seen) → is_own shape c block x ≡ true
    → ¬ MayBeSeen tap shape (led_by tap shape fresh (own shape c block before)) x → IsImpossible tap shape c (before ++ x ∷ rest)
is_impossible tap shape c block before rest x at may_not full filled image run so =
    may_not (every_line tap c shape image (before ++ x ∷ rest) full run filled so block (own shape c block before) (own shape c block rest) x
    (joined shape c block before (x ∷ rest) ∙ ap (λ (ys : List Seen). own shape c block before ++ ys) (own_first shape c block x rest at)))

-- a list is what stands before a place, what stands there, and what stands behind it
pub split_at : (xs : List Seen) (place : ℕ) (x : Seen) → slice_get xs place ≡ Some x → (rest : List Seen) × (xs ≡ take place xs ++ x ∷ rest)
split_at [] place x e = cc
split_at (y ∷ ys) zero x e = let same : y ≡ x = cc in (ys, ap (λ (z : Seen). z ∷ ys) same)
split_at (y ∷ ys) (suc place) x e = let more = split_at ys place x e in (more.0, ap (λ (zs : List Seen). y ∷ zs) more.1)

-- the line at a place may not be seen
pub is_impossible_at : (tap : Tap) (shape : Shape) (c block place : ℕ) (seen : List Seen) (x : Seen) → slice_get seen place ≡ Some x
    → is_own shape c block x ≡ true → ¬ MayBeSeen tap shape (led_by tap shape fresh (own shape c block (take place seen))) x
    → IsImpossible tap shape c seen
is_impossible_at tap shape c block place seen x there at may_not =
    let parts = split_at seen place x there in
    subst (λ (xs : List Seen). IsImpossible tap shape c xs) (sym parts.1) (is_impossible tap shape c block (take place seen) parts.0 x at may_not)

-- the next line is the one at the place
pub take_one : (xs : List Seen) (place : ℕ) (d : Seen) → place < length xs → take (place + 1) xs ≡ take place xs ++ get_or xs place d ∷ []
take_one [] place d h = absurd (omega (arith, h))
take_one (y ∷ ys) zero d h = refl
take_one (y ∷ ys) (suc place) d h =
    rw (add-one (suc place)) (ap (λ (zs : List Seen). y ∷ zs) (sym (ap (λ (n : ℕ). take n ys) (add-one place)) ∙ take_one ys place d (omega (arith, h))))

-- and is there
pub there_is : (xs : List Seen) (place : ℕ) (d : Seen) → place < length xs → slice_get xs place ≡ Some (get_or xs place d)
there_is [] place d h = absurd (omega (arith, h))
there_is (y ∷ ys) zero d h = refl
there_is (y ∷ ys) (suc place) d h = there_is ys place d (omega (arith, h))

-- ## The beginning of some lines

take_drop_all : (n : ℕ) (xs : List Seen) → take n xs ++ drop n xs ≡ xs
take_drop_all zero xs = refl
take_drop_all (suc n) [] = refl
take_drop_all (suc n) (x ∷ xs) = ap (λ (zs : List Seen). x ∷ zs) (take_drop_all n xs)

-- where each line may be seen, each of the first ones may
pub each_may_take : (tap : Tap) (shape : Shape) (c n : ℕ) (xs : List Seen) → EachMay tap shape c xs → EachMay tap shape c (take n xs)
each_may_take tap shape c n xs all = λ block.
    may_first tap shape fresh (own shape c block (take n xs)) (own shape c block (drop n xs))
    (subst (λ (ys : List Seen). AllMay tap shape fresh ys) (joined shape c block (take n xs) (drop n xs))
    (subst (λ (ys : List Seen). AllMay tap shape fresh (own shape c block ys)) (sym (take_drop_all n xs)) (all block)))

take_less : (m n : ℕ) (xs : List Seen) → m ≤ n → take m (take n xs) ≡ take m xs
take_less zero n xs le = refl
take_less (suc m) zero xs le = absurd (omega (arith, le))
take_less (suc m) (suc n) [] le = refl
take_less (suc m) (suc n) (x ∷ xs) le = ap (λ (zs : List Seen). x ∷ zs) (take_less m n xs (omega (arith, le)))

-- and of fewer
pub each_may_less : (tap : Tap) (shape : Shape) (c m n : ℕ) (xs : List Seen) → m ≤ n → EachMay tap shape c (take n xs)
    → EachMay tap shape c (take m xs)
each_may_less tap shape c m n xs le all =
    subst (λ (ys : List Seen). EachMay tap shape c ys) (take_less m n xs le) (each_may_take tap shape c m (take n xs) all)
