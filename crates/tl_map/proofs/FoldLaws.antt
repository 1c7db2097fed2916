-- Laws of folds: the exclusive or of all groups of a number, by halves.
use Rattle.std.proofs.Common.{◌≡◌, ℕ, zero, suc, ◌+◌, ◌*◌, ◌/◌, ◌%◌, ◌^◌, ap, sym, ◌∙◌, arith}
use Rattle.std.specs.Prelude.{bit_xor}
use Rattle.std.specs.Int.Bits.{xor_assoc, xor_zero_l, xor_zero_r}
use Rattle.std.proofs.lemmas.Nat.{pow-add, xor_comm, xor_mod, xor_shr}
use Rattle.std.proofs.Math.Nat.{div-div-eq-div-mul, div-one, suc-mul}
use Rattle.tl_map.specs.Places.{xor_of_groups}

-- the middle two of four change places
xor_middle : (a b c d : ℕ) → bit_xor (bit_xor a b) (bit_xor c d) ≡ bit_xor (bit_xor a c) (bit_xor b d)
xor_middle a b c d =
    xor_assoc a b (bit_xor c d)
    ∙ ap (bit_xor a) (sym (xor_assoc b c d) ∙ ap (λ x. bit_xor x d) (xor_comm b c) ∙ xor_assoc c b d)
    ∙ sym (xor_assoc a c (bit_xor b d))

-- the groups of an exclusive or are those of its parts
xor_of_groups-xor : (k count a b : ℕ)
    → xor_of_groups (2 ^ k) count (bit_xor a b) ≡ bit_xor (xor_of_groups (2 ^ k) count a) (xor_of_groups (2 ^ k) count b)
unfolding xor_of_groups
xor_of_groups-xor k zero a b = sym (xor_zero_l 0)
xor_of_groups-xor k (suc count) a b =
    ap (λ x. bit_xor x (xor_of_groups (2 ^ k) count (bit_xor a b / 2 ^ k))) (xor_mod a b k)
    ∙ ap (bit_xor (bit_xor (a % 2 ^ k) (b % 2 ^ k)))
    (ap (xor_of_groups (2 ^ k) count) (xor_shr a b k) ∙ xor_of_groups-xor k count (a / 2 ^ k) (b / 2 ^ k))
    ∙ xor_middle (a % 2 ^ k) (b % 2 ^ k) (xor_of_groups (2 ^ k) count (a / 2 ^ k)) (xor_of_groups (2 ^ k) count (b / 2 ^ k))

-- a shift by one group and then by others is one shift
shifted : (k low number : ℕ) → number / 2 ^ k / 2 ^ (low * k) ≡ number / 2 ^ (suc low * k)
shifted k low number =
    let all : suc low * k ≡ k + low * k = omega (arith, suc-mul low k) in
    div-div-eq-div-mul number (2 ^ k) (2 ^ (low * k)) ∙ ap (λ n. number / n) (sym (pow-add 2 k (low * k)))
    ∙ ap (λ e. number / 2 ^ e) (sym all)

-- the groups above some are those of the number shifted past them
xor_of_groups-halves : (k low high number : ℕ) → xor_of_groups (2 ^ k) (low + high) number
    ≡ bit_xor (xor_of_groups (2 ^ k) low number) (xor_of_groups (2 ^ k) high (number / 2 ^ (low * k)))
unfolding xor_of_groups
xor_of_groups-halves k zero high number =
    let none : 0 * k ≡ 0 = omega arith in
    let all : 0 + high ≡ high = omega arith in
    rw (none, all) (sym (xor_zero_l _ ∙ ap (xor_of_groups (2 ^ k) high) (div-one number)))
xor_of_groups-halves k (suc low) high number =
    let more : suc low + high ≡ suc (low + high) = omega arith in
    rw more
    (ap (bit_xor (number % 2 ^ k)) (xor_of_groups-halves k low high (number / 2 ^ k))
    ∙ sym (xor_assoc (number % 2 ^ k) (xor_of_groups (2 ^ k) low (number / 2 ^ k)) _)
    ∙ ap (λ x. bit_xor (bit_xor (number % 2 ^ k) (xor_of_groups (2 ^ k) low (number / 2 ^ k))) (xor_of_groups (2 ^ k) high x))
    (shifted k low number))

-- one fold: twice as many groups as those of the exclusive or of the halves
xor_of_groups-fold : (k count number : ℕ)
    → xor_of_groups (2 ^ k) (count + count) number ≡ xor_of_groups (2 ^ k) count (bit_xor number (number / 2 ^ (count * k)))
xor_of_groups-fold k count number =
    xor_of_groups-halves k count count number ∙ sym (xor_of_groups-xor k count number (number / 2 ^ (count * k)))

-- one group
xor_of_groups-last : (banks number : ℕ) → xor_of_groups banks 1 number ≡ number % banks
unfolding xor_of_groups
xor_of_groups-last banks number = xor_zero_r (number % banks)

-- a number with its half above another place folded in
abbrev pub fold : ℕ → ℕ → ℕ
fold bits number = bit_xor number (number / 2 ^ bits)

-- four folds leave the exclusive or of 16 groups
pub folded : (k number : ℕ)
    → xor_of_groups (2 ^ k) 16 number ≡ fold (1 * k) (fold (2 * k) (fold (4 * k) (fold (8 * k) number))) % 2 ^ k
folded k number =
    xor_of_groups-fold k 8 number
    ∙ xor_of_groups-fold k 4 (fold (8 * k) number)
    ∙ xor_of_groups-fold k 2 (fold (4 * k) (fold (8 * k) number))
    ∙ xor_of_groups-fold k 1 (fold (2 * k) (fold (4 * k) (fold (8 * k) number)))
    ∙ xor_of_groups-last (2 ^ k) _
