-- The clients that lines of a header name.
use Rattle.std.proofs.Common.{◌≡◌, ◌<◌, ◌+◌, ◌||◌, ◌&&◌, ◌⊎◌, ℕ, Bool, true, false, List, [], ◌∷◌, ◌++◌, length, take, get_or, refl, sym, ap, ◌∙◌, inl, inr}
use Rattle.std.proofs.lemmas.List.{take_more}
use Rattle.std.specs.List.{list_any}
use Rattle.tlwire_search.specs.Clients.{is_named}
use Rattle.tlwire_search.specs.declared.premises.Premises.{Premises}
use Rattle.tlwire_search.specs.declared.way.Way.TheVariants.{AtClient}
use Rattle.tlwire_answer.specs.Named.{names}

or_last : (t u : Bool) → (t || u) ≡ true → (t ≡ true) ⊎ (u ≡ true)
or_last true u e = inl refl
or_last false u e = inr e

or_flat : (t u v : Bool) → (t || (u || v)) ≡ ((t || u) || v)
or_flat true u v = refl
or_flat false u v = refl

or_none : (t : Bool) → (t || false) ≡ t
or_none true = refl
or_none false = refl

any_last : (p : ℕ → Bool) (xs : List ℕ) (x : ℕ) → list_any p (xs ++ x ∷ []) ≡ (list_any p xs || p x)
any_last p [] x = or_none (p x)
any_last p (y ∷ ys) x = ap (λ (t : Bool). p y || t) (any_last p ys x) ∙ or_flat (p y) (list_any p ys) (p x)

-- one client more
pub any_more : (p : ℕ → Bool) (xs : List ℕ) (i x : ℕ) → i < length xs → x ≡ get_or xs i x
    → list_any p (take (i + 1) xs) ≡ true → (list_any p (take i xs) ≡ true) ⊎ (p x ≡ true)
any_more p xs i x lt is any =
    let more : take (i + 1) xs ≡ take i xs ++ x ∷ [] = take_more xs i x lt ∙ ap (λ (y : ℕ). take i xs ++ y ∷ []) (sym is) in
    or_last (list_any p (take i xs)) (p x) (sym (ap (λ (ys : List ℕ). list_any p ys) more ∙ any_last p (take i xs) x) ∙ any)

left_of : (t u v : Bool) → (t && u && v) ≡ true → t ≡ true
left_of true u v e = refl
left_of false u v e = e

-- a client whose way the header names has a line of its own
pub named_by_line : (premises : Premises) (client : ℕ) → names premises (AtClient client) ≡ true → is_named premises.pins client ≡ true
named_by_line premises client named = left_of (is_named premises.pins client) _ _ named
