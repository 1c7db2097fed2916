-- The marks of the blocks that registers work on.
use Rattle.std.proofs.Common.{◌≡◌, ℕ, ◌+◌, ◌++◌, ◌/◌, ◌%◌, ◌^◌, ◌<◌, ◌≤◌, ◌==◌, ◌||◌, Bool, true, false, List, [], ◌∷◌, length, map, filter, take, get_or, cond, refl, sym, ◌∙◌, arith, bit_and, bit_or}
use Rattle.std.proofs.Math.Bool.{or-true}
use Rattle.std.specs.Int.{bit_at}
use Rattle.std.specs.List.{refill}
use Rattle.std.proofs.lemmas.Grind.{common_steps}
use Rattle.std.proofs.lemmas.List.Folds.{list_any_more, list_any-append}
use Rattle.std.proofs.lemmas.Nat.Bits.{bit_at_or, bit_at-lt, shr_and_one}
use Rattle.tl_registers.specs.declared.register.Register.{Register}
use Rattle.tl_registers.specs.declared.register.Task.{Task}
use Rattle.tl_registers.specs.declared.register.Task.TheVariants.{Acquire, Replace, Evict}
use Rattle.tl_registers.specs.Register.{works_on, victim_in, is_block}
use Rattle.tl_registers.specs.Marks.{IsMarked}
use Rattle.tl_registers.specs.Registers.{is_busy, noted, with_probe_of, without_victim, task_without}

-- a bit that is set stays so beside others
pub left-bit : (a b i : ℕ) → bit_at a i ≡ 1 → bit_at (bit_or a b) i ≡ 1
left-bit a b i one = omega (arith, bit_at_or a b i, one, bit_at-lt b i)

pub right-bit : (a b i : ℕ) → bit_at b i ≡ 1 → bit_at (bit_or a b) i ≡ 1
right-bit a b i one = omega (arith, bit_at_or a b i, one, bit_at-lt a i)

-- one of two answers is yes
pub either : (a b : Bool) {X : Type 0} → (a || b) ≡ true → (a ≡ true → X) → (b ≡ true → X) → X
either true b h left right = left refl
either false b h left right = right h

-- the marks of one register more
pub marked-more : (xs : List Register) (i marks more : ℕ) (d : Register) → i < length xs → IsMarked (take i xs) marks
    → ((block : ℕ) → works_on (get_or xs i d) block ≡ true → bit_at more (block % 64) ≡ 1)
    → IsMarked (take (i + 1) xs) (bit_or marks more)
marked-more xs i marks more d inside before here block busy =
    either (is_busy block (take i xs)) (works_on (get_or xs i d) block)
    (sym (list_any_more (λ r. works_on r block) xs i d inside) ∙ busy)
    (λ was. left-bit marks more (block % 64) (before block was))
    (λ is. right-bit marks more (block % 64) (here block is))

-- the marks with those of a register that joins the others
pub marked-added : (xs : List Register) (r : Register) (marks more : ℕ) → IsMarked xs marks
    → ((block : ℕ) → works_on r block ≡ true → bit_at more (block % 64) ≡ 1)
    → IsMarked (xs ++ r ∷ []) (bit_or marks more)
marked-added xs r marks more before here block busy =
    either (is_busy block xs) (works_on r block || false)
    (sym (list_any-append (λ x. works_on x block) xs (r ∷ [])) ∙ busy)
    (λ was. left-bit marks more (block % 64) (before block was))
    (λ is.
    right-bit marks more (block % 64)
    (here block (either (works_on r block) false is (λ works. works) (λ none. let bad : false ≡ true = none in cc))))

-- where a block's bit is not set, it is not busy
pub not-marked : (registers : List Register) (marks block : ℕ) → IsMarked registers marks
    → bit_and (marks / 2 ^ (block % 64)) 1 ≡ 0 → is_busy block registers ≡ false
not-marked registers marks block marked zero =
    elim (is_busy block registers) as (λ t. is_busy block registers ≡ t → t ≡ false) [
      | true ↦ λ busy.
          let one : bit_at marks (block % 64) ≡ 1 = marked block busy in
          let none : bit_at marks (block % 64) ≡ 0 = sym (shr_and_one marks (block % 64)) ∙ zero in
          absurd (omega (arith, one, none))
      | false ↦ λ busy. refl
    ] refl

-- ## What changes no mark

-- no more registers are kept than there are
pub fewer-kept : (keeps : Register → Bool) (registers : List Register)
    → length (filter keeps registers) ≤ length registers
fewer-kept keeps [] = omega arith
fewer-kept keeps (r ∷ rest) =
    let later = fewer-kept keeps rest in
    elim (keeps r) as (λ t. length (cond t (r ∷ filter keeps rest) (filter keeps rest)) ≤ length (r ∷ rest)) [
      | true ↦ omega (arith, later)
      | false ↦ omega (arith, later)
    ]

-- fewer registers work on fewer blocks
pub marked-filter : (keeps : Register → Bool) (registers : List Register) (marks : ℕ) → IsMarked registers marks
    → IsMarked (filter keeps registers) marks
marked-filter keeps registers marks marked block busy = marked block (fewer registers busy)
  where
    kept : (t : Bool) (r : Register) (rest : List Register)
        → is_busy block (cond t (r ∷ filter keeps rest) (filter keeps rest)) ≡ true
        → (is_busy block (filter keeps rest) ≡ true → is_busy block rest ≡ true) → is_busy block (r ∷ rest) ≡ true
    kept true r rest is later =
        either (works_on r block) (is_busy block (filter keeps rest)) is
        (λ here. rw here refl)
        (λ there. rw (later there) (or-true (works_on r block)))
    kept false r rest is later = rw (later is) (or-true (works_on r block))

    fewer : (rs : List Register) → is_busy block (filter keeps rs) ≡ true → is_busy block rs ≡ true
    fewer [] is = is
    fewer (r ∷ rest) is = kept (keeps r) r rest is (fewer rest)

-- where each register works on blocks that the one before it worked on, no block is new
marked-map : (f : Register → Register) (registers : List Register) (marks : ℕ)
    → ((r : Register) (block : ℕ) → works_on (f r) block ≡ true → works_on r block ≡ true)
    → IsMarked registers marks → IsMarked (map f registers) marks
marked-map f registers marks same marked block busy = marked block (before registers busy)
  where
    before : (rs : List Register) → is_busy block (map f rs) ≡ true → is_busy block rs ≡ true
    before [] is = is
    before (r ∷ rest) is =
        either (works_on (f r) block) (is_busy block (map f rest)) is
        (λ here. rw (same r block here) refl)
        (λ there. rw (before rest there) (or-true (works_on r block)))

-- a register that notes a Probe works on the same blocks
probe-same : (t : Bool) (r : Register) (block c other : ℕ) → (r.own == block) ≡ t
    → works_on (with_probe_of block c r) other ≡ works_on r other
probe-same true r block c other is = rw is refl
probe-same false r block c other is = rw is refl

pub marked-noted : (block c : ℕ) (registers : List Register) (marks : ℕ) → IsMarked registers marks
    → IsMarked (noted block c registers) marks
marked-noted block c registers marks =
    marked-map (with_probe_of block c) registers marks
    (λ r other is. sym (probe-same (r.own == block) r block c other refl) ∙ is)

-- a task without a victim has no other
task-less : (own victim block : ℕ) (task : Task) → is_block block (victim_in own (task_without victim task)) ≡ true
    → is_block block (victim_in own task) ≡ true
task-less own victim block (Acquire acquire) is = is
task-less own victim block (Replace acquire v) is =
    elim (v == victim) as (λ t. (v == victim) ≡ t → is_block block (victim_in own (Replace acquire v)) ≡ true) [
      | true ↦ λ same. let gone : false ≡ true = rw same at is in absurd cc
      | false ↦ λ apart. rw apart at is
    ] refl
task-less own victim block Evict is = is

pub marked-ended : (victim : ℕ) (registers : List Register) (marks : ℕ) → IsMarked registers marks
    → IsMarked (map (without_victim victim) registers) marks
marked-ended victim registers marks =
    marked-map (without_victim victim) registers marks
    (λ r block is.
    either (r.own == block) (is_block block (victim_in r.own (task_without victim r.task))) is
    (λ here. rw here refl)
    (λ there. rw (task-less r.own victim block r.task there) (or-true (r.own == block))))

-- as many elements take the place of all
pub refilled : (xs ws : List Register) → length ws ≡ length xs → refill (length xs) xs ws ≡ ws
refilled xs ws same = grind (arith, common_steps)
