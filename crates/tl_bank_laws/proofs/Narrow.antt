-- Registers that are gone leave the ways fit, if the ways that they held are not filling.
use Rattle.std.proofs.Common.{◌≡◌, ℕ, ◌&&◌, ◌==◌, Bool, true, false, List, [], ◌∷◌, filter, Option, is_none, refl, sym, ◌∙◌, ap, subst, inl, inr}
use Rattle.std.specs.List.{AllByRecursion}
use Rattle.std.proofs.lemmas.Bool.{cases_Bool, or_parts}
use Rattle.std.proofs.lemmas.Map.Views.{any-filter_same}
use Rattle.tl_bank_home.specs.Homes.{HomeState, order_at}
use Rattle.tl_registers.specs.Registers.{is_held}
use Rattle.tl_registers.specs.VictimWay.{IsInOrder}
use Rattle.tl_registers.specs.declared.register.Register.{Register}
use Rattle.tl_registers.specs.declared.way_of_set.WayOfSet.{WayOfSet}
use Rattle.tl_bank_spec.specs.View.{View}
use Rattle.tl_bank_spec.specs.Ways.{slots_at}
use Rattle.tl_bank_laws.specs.Means.{HoldsWay, WaysApart, WaysFit, is_filling, is_filling_by}
use Rattle.tl_bank_laws.proofs.Orders.{order-fills}
use Rattle.tl_bank_laws.proofs.Ways.{each-holds-stay, same-work, slot-stays, slots-stay}

-- it holds of each that is left
each-left : (P : Register → Type 0) (test : Register → Bool) (xs : List Register) → AllByRecursion P xs → AllByRecursion P (filter test xs)
each-left P test [] h = tt
each-left P test (r ∷ rest) h =
    elim (cases_Bool (test r)) [
      | inl t ↦ rw t (h.0, each-left P test rest h.1)
      | inr t ↦ rw t (each-left P test rest h.1)
    ]

-- a way that no register holds none of those that are left holds
held-left : (way : WayOfSet) (test : Register → Bool) (xs : List Register) → is_held way xs ≡ false → is_held way (filter test xs) ≡ false
held-left way test [] h = refl
held-left way test (r ∷ rest) h =
    let both = or_parts ((r.way.set == way.set) && (r.way.way == way.way)) (is_held way rest) h in
    let later = held-left way test rest both.1 in
    elim (cases_Bool (test r)) [
      | inl t ↦ rw t (rw (both.0, later) refl)
      | inr t ↦ rw t later
    ]

-- where no two registers hold one way, no two of those that are left do
apart-left : (test : Register → Bool) (xs : List Register) → WaysApart xs → WaysApart (filter test xs)
apart-left test [] h = tt
apart-left test (r ∷ rest) h =
    elim (cases_Bool (test r)) [
      | inl t ↦ rw t (held-left r.way test rest h.0, apart-left test rest h.1)
      | inr t ↦ rw t (apart-left test rest h.1)
    ]

-- the ways fit the registers that pass a test, where each that fills a way passes it
pub ways-narrow : (v : View) (test : Register → Bool) (home : HomeState)
    → ((set way : ℕ) (r : Register) → is_filling_by v set way r ≡ true → test r ≡ true)
    → WaysFit v home → WaysFit (record v { registers = filter test v.registers }) home
ways-narrow v test home stays fit =
    let t : View = record v { registers = filter test v.registers } in
    record {
      shown = fit.shown;
      inside = fit.inside;
      once = fit.once;
      holds = fit.holds;
      free = λ set way l k.
          fit.free set way l k
          ∙ ap (λ (o : Option ℕ). is_none o) (sym (slot-stays v v.log v.room t.registers v.ways (λ b l. refl) set way));
      held =
          each-left (HoldsWay t) test v.registers
          (each-holds-stay v v.log v.room t.registers v.ways v.registers v.registers (λ b l. refl) (same-work v.registers) fit.held);
      apart = apart-left test v.registers fit.apart;
      orders = λ set l.
          subst (λ (slots : List (Option ℕ)). IsInOrder slots (is_filling t set) v.log (order_at home set))
          (sym (slots-stay v v.log v.room t.registers v.ways (λ b l. refl) set))
          (order-fills (slots_at v set) (is_filling v set) (is_filling t set) v.log (order_at home set)
          (λ way block here h. any-filter_same (is_filling_by v set way) test true (stays set way) v.registers ∙ h)
          (fit.orders set l));
    }
