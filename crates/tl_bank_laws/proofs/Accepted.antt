-- Where the open registers agree with the blocks, home serves just the Acquires that they were opened for.
use Rattle.std.proofs.Common.{◌≡◌, ℕ, ◌==◌, true, false, List, [], ◌∷◌, None, refl, sym, ◌∙◌, ap, subst, inl, inr, eqb-true}
use Rattle.std.specs.List.{AllByRecursion}
use Rattle.std.proofs.lemmas.Bool.{cases_Bool, or_parts}
use Rattle.tl_protocol.specs.declared.shape.Shape.{Shape}
use Rattle.tl_protocol.specs.Protocol.{Block}
use Rattle.tl_registers.specs.declared.register.Register.{Register}
use Rattle.tl_registers.specs.declared.register.Task.{Task}
use Rattle.tl_registers.specs.declared.register.Task.TheVariants.{Acquire, Replace, Evict}
use Rattle.tl_registers.specs.Agree.{Agree, AreApart}
use Rattle.tl_registers.specs.Fit.{Fits, TaskFits}
use Rattle.tl_registers.specs.Register.{is_block, victim_in, victim_of, works_on}
use Rattle.tl_registers.specs.Registers.{is_busy, register_of}
use Rattle.tl_bank_spec.specs.Kept.{acquire_in, accepted_by}

-- a block on which no register works is no register's own
pub none-of : (b : ℕ) (registers : List Register) → is_busy b registers ≡ false → register_of b registers ≡ None
none-of b [] h = refl
none-of b (r ∷ rest) h =
    let k = or_parts (works_on r b) (is_busy b rest) h in
    let o = or_parts (r.own == b) (is_block b (victim_of r)) k.0 in
    rw o.0 (none-of b rest k.1)

-- home serves the Acquire that a register is open for
own-accepted : (shape : Shape) (states : ℕ → Block) (r : Register) (task : Task) → TaskFits shape states r task
    → (states r.own).accepted ≡ acquire_in task
own-accepted shape states r (Acquire acquire) h = h.accepted
own-accepted shape states r (Replace acquire victim) h = h.0.accepted
own-accepted shape states r Evict h = h.not_accepted

-- and none of the victim
victim-free : (shape : Shape) (states : ℕ → Block) (r : Register) (task : Task) (b : ℕ) → TaskFits shape states r task
    → (r.own == b) ≡ false → is_block b (victim_in r.own task) ≡ true → (states b).accepted ≡ None
victim-free shape states r (Acquire acquire) b h other is = cc
victim-free shape states r (Replace acquire victim) b h other is =
    subst (λ (y : ℕ). (states y).accepted ≡ None) (eqb-true victim b is) h.2.not_accepted
victim-free shape states r Evict b h other is = let bad : true ≡ false = sym is ∙ other in cc

-- home serves of a block the Acquire of its register in a list, if it serves none where none of the list works on the block
accepted-of : (shape : Shape) (states : ℕ → Block) (registers : List Register) (b : ℕ) → AllByRecursion (Fits shape states) registers
    → AreApart registers → (is_busy b registers ≡ false → (states b).accepted ≡ None)
    → (states b).accepted ≡ accepted_by (register_of b registers)
accepted-of shape states [] b fits apart free = free refl
accepted-of shape states (r ∷ rest) b fits apart free =
    elim (cases_Bool (r.own == b)) [
      | inl e ↦
          let own : (states b).accepted ≡ acquire_in r.task =
          subst (λ (y : ℕ). (states y).accepted ≡ acquire_in r.task) (eqb-true r.own b e) (own-accepted shape states r r.task fits.0.task) in
          rw e own
      | inr e ↦
          rw e (elim (cases_Bool (is_block b (victim_of r))) [
            | inl t ↦
                let on : works_on r b ≡ true = rw (e, t) refl in
                victim-free shape states r r.task b fits.0.task e t ∙ sym (ap accepted_by (none-of b rest (apart.0 b on)))
            | inr t ↦ accepted-of shape states rest b fits.1 apart.1 (λ n. free (rw (e, t) n))
          ])
    ]

-- The Acquire that home serves of a block is the one of the block's register.
pub accepted-by-agree : (shape : Shape) (states : ℕ → Block) (registers : List Register) → Agree shape states registers → (b : ℕ)
    → (states b).accepted ≡ accepted_by (register_of b registers)
accepted-by-agree shape states registers agree b =
    accepted-of shape states registers b agree.fits agree.apart (λ free. (agree.at_rest b free).not_accepted)
