use Rattle.std.proofs.Common.{◌≡◌, ℕ, [], ◌∷◌, ◌++◌, Some, None, sym, ap, subst}
use Rattle.tl_map.specs.Places.{set_of}
use Rattle.tl_registers.specs.Register.{opened}
use Rattle.tl_registers.specs.declared.register.Task.TheVariants.{Evict}
use Rattle.tl_registers.specs.declared.way_of_set.WayOfSet.{WayOfSet}
use Rattle.tl_bank_spec.specs.HomeCalls.{evict_cases}
use Rattle.tl_bank_spec.specs.Refusal.{first_of}
use Rattle.tl_bank_spec.specs.View.{View}
use Rattle.tl_bank_spec.specs.Own.{way_at}
use Rattle.tl_bank_spec.specs.Ways.{way_in_set}
use Rattle.tl_bank_laws.specs.Means.{Means}
use Rattle.tl_bank_laws.proofs.Evicts.{evict-keeps}
use Rattle.tl_bank.specs.Shown.{shown, layers}
use Rattle.tl_bank.proofs.bank.Bank.evict.Goals as goal

pub invariant_of-self : goal.invariant_of-self
invariant_of-self c =
    let v : View = shown c.self.inside in
    let block : ℕ = c.args.block in
    let way : ℕ = c.in_ok-way.way.way in
    let Allowed : View → Type 0 = λ w. first_of (evict_cases w block) ≡ None in
    let allowed : Allowed v = subst Allowed (sym c.self.view_is) c.in_ok-way.ensures.permitted in
    let lies : way_at v block ≡ Some way = subst (λ (w : View). way_at w block ≡ Some way) (sym c.self.view_is) c.in_ok-way.ensures.way in
    let Held : View → Type 0 = λ w. c.in_ok-way.way ≡ way_in_set (set_of w.geometry block) way in
    let held : Held v = subst Held (sym c.self.view_is) (ap (λ (set : ℕ). way_in_set set way) c.in_ok-way.ensures.set) in
    let Result : WayOfSet → Type 0 = λ x. Means (record v { registers = v.registers ++ opened block x Evict ∷ [] }) (layers c.self.inside) in
    rw c.open_evict.ensures
    (subst Result (sym held) (evict-keeps v (layers c.self.inside) block way c.self.invariant allowed lies))
