-- Of fewer than eight blocks something passes between home and the memory, when a register that lets nothing pass is about to.
use Rattle.std.proofs.Common.{◌≡◌, ◌≢◌, ℕ, ◌+◌, ◌<◌, ◌≤◌, ◌==◌, ◌||◌, not, true, false, List, [], ◌∷◌, length, Option, Some, None, if◌then◌else◌, refl, sym, ◌∙◌, ap, subst, arith, inl, inr, eqb-true, eq-eqb, nat_lt}
use Rattle.std.specs.List.{AllByRecursion}
use Rattle.tl_types.proofs.Booleans.{or-else}
use Rattle.std.proofs.Math.Bool.{or-true}
use Rattle.std.proofs.lemmas.Bool.{cases_Bool, eqb-false}
use Rattle.std.specs.Prelude.{◌⊎◌}
use Rattle.std.proofs.lemmas.Bool.Decides.{nat_tests}
use Rattle.tl_map.specs.Places.{bank_of}
use Rattle.tl_protocol.specs.declared.home.Outward.TheVariants.{Quiet}
use Rattle.tl_protocol.specs.declared.shape.Shape.{Shape}
use Rattle.tl_protocol.specs.Protocol.{Block}
use Rattle.tl_bank_home.specs.Homes.{EachHasHolder, outward_in}
use Rattle.tl_registers.specs.Fit.{Fits, TaskFits}
use Rattle.tl_registers.specs.Register.{is_block, victim_in, victim_of, works_on}
use Rattle.tl_registers.specs.Registers.{closed, is_busy, register_of}
use Rattle.tl_registers.specs.declared.register.Register.{Register}
use Rattle.tl_registers.specs.declared.register.Task.{Task}
use Rattle.tl_registers.specs.declared.register.Task.TheVariants.{Acquire, Replace, Evict}
use Rattle.tl_registers.proofs.Tables.{IsOneOf, each-filter, each-follows, one-among}
use Rattle.tl_bank_spec.specs.View.{View, end_at, shape_of}
use Rattle.tl_bank_spec.specs.Own.{IsOwn}
use Rattle.tl_bank_laws.specs.Layers.{Layers}
use Rattle.tl_bank_laws.specs.Means.{Means}

-- ## One block of each register

-- a block that the test finds to be the victim is the victim
is-block : (b : ℕ) (o : Option ℕ) → is_block b o ≡ true → o ≡ Some b
is-block b None h = cc
is-block b (Some x) h = ap (λ (n : ℕ). Some n) (eqb-true x b h)

-- a register that works on a block has it as its own or as its victim
works-is : (own b : ℕ) (victim : Option ℕ) → ((own == b) || is_block b victim) ≡ true → (own ≡ b) ⊎ (victim ≡ Some b)
works-is own b victim h =
    elim (cases_Bool (own == b)) [
      | inl t ↦ inl (eqb-true own b t)
      | inr t ↦ inr (is-block b victim (or-else (own == b) (is_block b victim) h t))
    ]

-- of the blocks that a register works on, something passes of one alone
one-crosses : (shape : Shape) (states : ℕ → Block) (r : Register) (task : Task) → TaskFits shape states r task
    → (a b : ℕ) → ((r.own == a) || is_block a (victim_in r.own task)) ≡ true → ((r.own == b) || is_block b (victim_in r.own task)) ≡ true
    → (states a).outward ≢ Quiet → (states b).outward ≢ Quiet → a ≡ b
one-crosses shape states r (Acquire acquire) fits a b on_a on_b some_a some_b =
    elim (works-is r.own a None on_a) [
      | inr bad ↦ cc
      | inl p ↦ elim (works-is r.own b None on_b) [ inr bad ↦ cc | inl q ↦ sym p ∙ q ]
    ]
one-crosses shape states r (Replace acquire victim) fits a b on_a on_b some_a some_b =
    elim (works-is r.own a (Some victim) on_a) [
      | inl p ↦ absurd (some_a (subst (λ (y : ℕ). (states y).outward ≡ Quiet) p fits.1.quiet))
      | inr p ↦ elim (works-is r.own b (Some victim) on_b) [
        | inl q ↦ absurd (some_b (subst (λ (y : ℕ). (states y).outward ≡ Quiet) q fits.1.quiet))
        | inr q ↦ let same : a ≡ b = cc in same
      ]
    ]
one-crosses shape states r Evict fits a b on_a on_b some_a some_b =
    elim (works-is r.own a (Some r.own) on_a) [
      | inl p ↦ elim (works-is r.own b (Some r.own) on_b) [ inl q ↦ sym p ∙ q | inr q ↦ let same : a ≡ b = cc in same ]
      | inr p ↦ elim (works-is r.own b (Some r.own) on_b) [ inl q ↦ let same : a ≡ b = cc in same | inr q ↦ let same : a ≡ b = cc in same ]
    ]

-- nothing passes of the blocks of a register that sends its victim away, or has none and fetches, of which nothing passes
none-crosses : (shape : Shape) (states : ℕ → Block) (r : Register) (task : Task) → TaskFits shape states r task
    → (victim_in r.own task ≡ None → (states r.own).outward ≡ Quiet)
    → ((x : ℕ) → victim_in r.own task ≡ Some x → (states x).outward ≡ Quiet)
    → (b : ℕ) → ((r.own == b) || is_block b (victim_in r.own task)) ≡ true → (states b).outward ≡ Quiet
none-crosses shape states r (Acquire acquire) fits own victim b on =
    elim (works-is r.own b None on) [
      | inl p ↦ subst (λ (y : ℕ). (states y).outward ≡ Quiet) p (own refl)
      | inr bad ↦ cc
    ]
none-crosses shape states r (Replace acquire x) fits own victim b on =
    elim (works-is r.own b (Some x) on) [
      | inl p ↦ subst (λ (y : ℕ). (states y).outward ≡ Quiet) p fits.1.quiet
      | inr p ↦ victim b p
    ]
none-crosses shape states r Evict fits own victim b on =
    elim (works-is r.own b (Some r.own) on) [
      | inl p ↦ victim b (ap (λ (n : ℕ). Some n) p)
      | inr p ↦ victim b p
    ]

-- ## Where the register of a block stands

-- the place of the first register that works on a block
abbrev place : List Register → ℕ → ℕ
place [] b = 0
place (q ∷ rest) b = if works_on q b then 0 else place rest b + 1

-- it is a place in the list, where any register works on the block
place-inside : (xs : List Register) (b : ℕ) → is_busy b xs ≡ true → place xs b < length xs
place-inside [] b h = cc
place-inside (q ∷ rest) b h =
    elim (cases_Bool (works_on q b)) [
      | inl t ↦ rw t (omega arith)
      | inr t ↦ let more = place-inside rest b (or-else (works_on q b) (is_busy b rest) h t) in rw t (omega (arith, more))
    ]

-- a register works on one alone of the blocks of which something passes
abbrev OneOf : (ℕ → Block) → Register → Type 0
OneOf states r =
    (a b : ℕ) → works_on r a ≡ true → works_on r b ≡ true → (states a).outward ≢ Quiet → (states b).outward ≢ Quiet → a ≡ b

-- of such registers, two busy blocks of which something passes and whose places are one are one
place-same : (states : ℕ → Block) (xs : List Register) (a b : ℕ) → AllByRecursion (OneOf states) xs → is_busy a xs ≡ true → is_busy b xs ≡ true
    → (states a).outward ≢ Quiet → (states b).outward ≢ Quiet → place xs a ≡ place xs b → a ≡ b
place-same states [] a b each busy_a busy_b some_a some_b same = cc
place-same states (q ∷ rest) a b each busy_a busy_b some_a some_b same =
    elim (cases_Bool (works_on q a)) [
      | inl s ↦ elim (cases_Bool (works_on q b)) [
        | inl t ↦ each.0 a b s t some_a some_b
        | inr t ↦ let bad : 0 ≡ place rest b + 1 = (rw (s, t) at same) in absurd (omega (arith, bad))
      ]
      | inr s ↦ elim (cases_Bool (works_on q b)) [
        | inl t ↦ let bad : place rest a + 1 ≡ 0 = (rw (s, t) at same) in absurd (omega (arith, bad))
        | inr t ↦
            let more : place rest a + 1 ≡ place rest b + 1 = (rw (s, t) at same) in
            place-same states rest a b each.1 (or-else (works_on q a) (is_busy a rest) busy_a s)
            (or-else (works_on q b) (is_busy b rest) busy_b t) some_a some_b (omega (arith, more))
      ]
    ]

-- ## The other registers

-- without a block's register there are no more than before
pub closed-few : (own : ℕ) (xs : List Register) → length (closed own xs) ≤ length xs
closed-few own [] = omega arith
closed-few own (q ∷ rest) =
    let more = closed-few own rest in
    elim (cases_Bool (q.own == own)) [ inl t ↦ rw t (omega (arith, more)) | inr t ↦ rw t (omega (arith, more)) ]

-- without its own register they are fewer
closed-fewer : (own : ℕ) (xs : List Register) (r : Register) → register_of own xs ≡ Some r → length (closed own xs) < length xs
closed-fewer own [] r h = cc
closed-fewer own (q ∷ rest) r h =
    elim (cases_Bool (q.own == own)) [
      | inl t ↦ let more = closed-few own rest in rw t (omega (arith, more))
      | inr t ↦
          let h2 : register_of own rest ≡ Some r = (rw t at h) in
          let more = closed-fewer own rest r h2 in rw t (omega (arith, more))
    ]

-- a block on which its register does not work, but one does, is busy without it
closed-busy : (own : ℕ) (xs : List Register) (r : Register) (b : ℕ) → r.own ≡ own → AllByRecursion (IsOneOf r) xs → works_on r b ≡ false
    → is_busy b xs ≡ true → is_busy b (closed own xs) ≡ true
closed-busy own [] r b here each off busy = cc
closed-busy own (q ∷ rest) r b here each off busy =
    elim (cases_Bool (q.own == own)) [
      | inl t ↦
          let off_q : works_on q b ≡ false = elim each.0 [
            | inl same ↦ ap (λ (x : Register). works_on x b) same ∙ off
            | inr other ↦
                let on : works_on r own ≡ true = (let e = eq-eqb r.own own here in rw e refl) in
                let bad : works_on q own ≡ false = other own on in
                let good : works_on q own ≡ true = rw t refl in
                let both : true ≡ false = sym good ∙ bad in cc
          ] in
          rw t (closed-busy own rest r b here each.1 off (or-else (works_on q b) (is_busy b rest) busy off_q))
      | inr t ↦
          elim (cases_Bool (works_on q b)) [
            | inl s ↦ rw (t, s) refl
            | inr s ↦
                let more = closed-busy own rest r b here each.1 off (or-else (works_on q b) (is_busy b rest) busy s) in
                rw (t, more) (or-true (works_on q b))
          ]
    ]

-- ## Few blocks cross

-- a block is one of the bank or not
pub own-or-not : (v : View) (b : ℕ) → IsOwn v.geometry v.number b ⊎ (IsOwn v.geometry v.number b → ⊥)
own-or-not v b =
    elim (cases_Bool (nat_lt b v.geometry.memory_blocks)) [
      | inl s ↦ elim (cases_Bool (bank_of v.geometry b == v.number)) [
        | inl t ↦ inl (grind (arith, nat_tests), eqb-true (bank_of v.geometry b) v.number t)
        | inr t ↦ inr (λ own. eqb-false (bank_of v.geometry b) v.number t own.1)
      ]
      | inr s ↦ inr (λ own. let l = own.0 in absurd (grind (arith, nat_tests)))
    ]

-- of a block that something passes of, a register works on it
crossing-busy : (v : View) (h : Layers) (b : ℕ) → Means v h → outward_in h.home b ≢ Quiet
    → (is_busy b v.registers ≡ true) × ((end_at v b).outward ≢ Quiet)
crossing-busy v h b m some =
    elim (own-or-not v b) [
      | inr apart ↦ absurd (some (m.quiet b apart))
      | inl own ↦
          let is = (m.home b own).outward in
          elim (cases_Bool (is_busy b v.registers)) [
            | inl busy ↦ (busy, λ quiet. some (is ∙ quiet))
            | inr free ↦ absurd (some (is ∙ (m.registers.agree.at_rest b free).quiet))
          ]
    ]

-- where nothing passes of the blocks of one register, something passes of fewer than eight
pub crossings-few : (v : View) (h : Layers) (own : ℕ) (r : Register) (count : ℕ) → Means v h → register_of own v.registers ≡ Some r
    → r.own ≡ own → Fits (shape_of v.geometry) (end_at v) r
    → (victim_of r ≡ None → (end_at v r.own).outward ≡ Quiet)
    → ((x : ℕ) → victim_of r ≡ Some x → (end_at v x).outward ≡ Quiet)
    → ((n : ℕ) (holder : ℕ → ℕ) → EachHasHolder h.home n holder → count ≤ n) → count < 8
crossings-few v h own r count m found here fits own_quiet victim_quiet most =
    let shape = shape_of v.geometry in
    let others : List Register = closed own v.registers in
    let fewer : length others < length v.registers = closed-fewer own v.registers r found in
    let limit : v.geometry.registers ≤ 8 = m.geometry.registers.most in
    let few : length v.registers ≤ v.geometry.registers = m.registers.few in
    let each : AllByRecursion (OneOf (end_at v)) v.registers =
    each-follows (Fits shape (end_at v)) (OneOf (end_at v)) v.registers
    (λ q f a b. one-crosses shape (end_at v) q q.task f.task a b) m.registers.agree.fits in
    let each_other : AllByRecursion (OneOf (end_at v)) others =
    each-filter (OneOf (end_at v)) (λ q. not (q.own == own)) v.registers
    (each-follows (OneOf (end_at v)) (λ q. not (q.own == own) ≡ true → OneOf (end_at v) q) v.registers (λ q f on. f) each) in
    let among = one-among own v.registers r m.registers.agree.apart found in
    let busy : (b : ℕ) → outward_in h.home b ≢ Quiet → is_busy b others ≡ true =
    λ b some.
    let k = crossing-busy v h b m some in
    elim (cases_Bool (works_on r b)) [
      | inl on ↦ absurd (k.1 (none-crosses shape (end_at v) r r.task fits.task own_quiet victim_quiet b on))
      | inr off ↦ closed-busy own v.registers r b here among off k.0
    ] in
    let holds : EachHasHolder h.home (length others) (place others) = record {
      inside = λ b some. place-inside others b (busy b some);
      own = λ a b some_a some_b same.
          place-same (end_at v) others a b each_other (busy a some_a) (busy b some_b) (crossing-busy v h a m some_a).1
          (crossing-busy v h b m some_b).1 same;
    } in
    let all : count ≤ length others = most (length others) (place others) holds in
    omega arith
