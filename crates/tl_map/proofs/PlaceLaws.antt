-- Laws of places.
use Rattle.std.proofs.Common.{◌≡◌, ℕ, zero, suc, ◌+◌, ◌*◌, ◌-◌, ◌/◌, ◌%◌, ◌^◌, ◌<◌, ◌≤◌, refl, ap, subst, sym, ◌∙◌, arith}
use Rattle.std.specs.Prelude.{bit_xor}
use Rattle.std.specs.Int.Bits.{xor_assoc, xor_self, xor_zero_l, xor_zero_r}
use Rattle.std.proofs.lemmas.Nat.{xor_lt, mod_below, pow_pos, div_below, div-add-mod', div-mul-add, mod-mul-add, mul-le}
use Rattle.std.proofs.Math.Nat.{pow-suc, div-le_self}
use Rattle.tl_map.specs.Numbers.{Numbers}
use Rattle.tl_map.specs.Limits.{IsLawful}
use Rattle.tl_map.specs.Places.{xor_of_groups, bank_of, slot_of, slot_count, set_of, tag_of, place_of}
use Rattle.tl_map.specs.declared.place.Place.{Place}

-- ## The exclusive or of groups

-- one group less
xor_of_groups-step : (banks count number : ℕ) → 0 < count
    → xor_of_groups banks count number ≡ bit_xor (number % banks) (xor_of_groups banks (count - 1) (number / banks))
unfolding xor_of_groups
xor_of_groups-step banks zero number some = absurd (omega arith)
xor_of_groups-step banks (suc count) number some =
    let less : suc count - 1 ≡ count = omega arith in
    rw less refl

-- it is a group
pub xor_of_groups-lt : (k count number : ℕ) → xor_of_groups (2 ^ k) count number < 2 ^ k
unfolding xor_of_groups
xor_of_groups-lt k zero number = pow_pos k
xor_of_groups-lt k (suc count) number =
    xor_lt k (number % 2 ^ k) (xor_of_groups (2 ^ k) count (number / 2 ^ k)) (mod_below number (2 ^ k) (pow_pos k))
    (xor_of_groups-lt k count (number / 2 ^ k))

-- with one bank it is 0
xor_of_groups-one : (count number : ℕ) → xor_of_groups 1 count number ≡ 0
unfolding xor_of_groups
xor_of_groups-one zero number = refl
xor_of_groups-one (suc count) number =
    let rest : number % 1 ≡ 0 = omega (arith, mod_below number 1 (omega arith)) in
    rw rest (xor_zero_l _ ∙ xor_of_groups-one count (number / 1))

-- groups past the top of a number are 0
xor_of_groups-more : (banks count number : ℕ) → 2 ≤ banks → number < 2 ^ count
    → xor_of_groups banks (suc count) number ≡ xor_of_groups banks count number
unfolding xor_of_groups
xor_of_groups-more banks zero number two small =
    let none : number ≡ 0 = omega (arith, small) in
    let rest : 0 % banks ≡ 0 = omega (arith, mod_below 0 banks (omega arith)) in
    rw none (rw rest refl)
xor_of_groups-more banks (suc count) number two small =
    let wide : 2 ^ count * 2 ≤ 2 ^ count * banks = mul-le (2 ^ count) 2 (2 ^ count) banks (omega arith) two in
    ap (bit_xor (number % banks))
    (xor_of_groups-more banks count (number / banks) two (div_below number banks (2 ^ count) (omega arith)
    (omega (arith, wide, pow-suc 2 count))))

-- the slot of a block of 16 bits has 15 groups at most
slot_groups : (k block : ℕ) → block < 2 ^ 16
    → xor_of_groups (2 ^ k) 16 (block / 2 ^ k) ≡ xor_of_groups (2 ^ k) 15 (block / 2 ^ k)
slot_groups zero block small = xor_of_groups-one 16 _ ∙ sym (xor_of_groups-one 15 _)
slot_groups (suc k) block small =
    let wide : 2 ≤ 2 ^ suc k = omega (arith, pow-suc 2 k, pow_pos k) in
    let many : 2 ^ 15 * 2 ≤ 2 ^ 15 * 2 ^ suc k = mul-le (2 ^ 15) 2 (2 ^ 15) (2 ^ suc k) (omega arith) wide in
    xor_of_groups-more (2 ^ suc k) 15 (block / 2 ^ suc k) wide
    (div_below block (2 ^ suc k) (2 ^ 15) (omega arith) (omega (arith, many)))

-- the same, of a lawful geometry
more_groups : (g : Numbers) (block : ℕ) → IsLawful g → block < 2 ^ 16
    → xor_of_groups g.banks 16 (slot_of g block) ≡ xor_of_groups g.banks 15 (slot_of g block)
unfolding slot_of
more_groups g block lawful small =
    let power = lawful.banks in
    subst (λ banks. xor_of_groups banks 16 (block / banks) ≡ xor_of_groups banks 15 (block / banks)) (sym power.power)
    (slot_groups power.exponent block small)

-- ## Places

-- a place by its parts
same_place : (p q : Place) → p.bank ≡ q.bank → p.set ≡ q.set → p.tag ≡ q.tag → p ≡ q
same_place p q banks sets tags =
    ap (λ (bank : ℕ). record p { bank = bank }) banks
    ∙ ap (λ (set : ℕ). record p { bank = q.bank; set = set }) sets
    ∙ ap (λ (tag : ℕ). record q { tag = tag }) tags

-- a second exclusive or undoes the first
xor_twice : (a b : ℕ) → bit_xor (bit_xor a b) b ≡ a
xor_twice a b = xor_assoc a b b ∙ ap (bit_xor a) (xor_self b) ∙ xor_zero_r a

-- the bank is the lowest group and those of the slot
bank_of-slot : (g : Numbers) (block : ℕ) → bank_of g block ≡ bit_xor (block % g.banks) (xor_of_groups g.banks 15 (slot_of g block))
unfolding bank_of slot_of
bank_of-slot g block = xor_of_groups-step g.banks 16 block (omega arith)

-- the lowest group by the bank and the slot
lowest : (g : Numbers) (block : ℕ) → block % g.banks ≡ bit_xor (bank_of g block) (xor_of_groups g.banks 15 (slot_of g block))
lowest g block = sym (rw (bank_of-slot g block) (xor_twice _ _))

-- a block by its bank and its slot
block_by_slot : (g : Numbers) (block : ℕ)
    → block ≡ slot_of g block * g.banks + bit_xor (bank_of g block) (xor_of_groups g.banks 15 (slot_of g block))
unfolding slot_of
block_by_slot g block = sym (div-add-mod' block g.banks) ∙ ap (λ low. block / g.banks * g.banks + low) (lowest g block)

-- a slot by its set and its tag
slot_by_set : (g : Numbers) (block : ℕ) → slot_of g block ≡ tag_of g block * g.sets + set_of g block
unfolding set_of tag_of
slot_by_set g block = sym (div-add-mod' (slot_of g block) g.sets)

-- the slot of a place
abbrev pub slot_at : Numbers → Place → ℕ
slot_at g place = place.tag * g.sets + place.set

-- the only block that a place can have
abbrev pub block_in : Numbers → Place → ℕ
block_in g place = slot_at g place * g.banks + bit_xor place.bank (xor_of_groups g.banks 16 (slot_at g place))

-- that block by its parts
pub block_in-parts : (g : Numbers) (place : Place) (slot banks bank groups block : ℕ) → slot ≡ slot_at g place → banks ≡ g.banks
    → bank ≡ place.bank → groups ≡ xor_of_groups g.banks 16 slot → block ≡ slot * banks + bit_xor bank groups
    → block ≡ block_in g place
block_in-parts g place slot banks bank groups block slots same_banks same_bank same_groups made =
    made ∙ rw (same_groups, slots, same_banks, same_bank) refl

-- no two blocks of a bank have one slot
pub slot_of-alone : (g : Numbers) (a b : ℕ) → bank_of g a ≡ bank_of g b → slot_of g a ≡ slot_of g b → a ≡ b
slot_of-alone g a b banks slots =
    let first = block_by_slot g a in
    let second = block_by_slot g b in
    rw first (rw (banks, slots) (sym second))

-- there is a bank
pub some_banks : (g : Numbers) → IsLawful g → 0 < g.banks
some_banks g lawful =
    let power = lawful.banks in
    rw power.power (pow_pos power.exponent)

-- the slot of a block of the memory is one of the slots
pub slot_of-lt : (g : Numbers) (block : ℕ) → IsLawful g → block < g.memory_blocks → slot_of g block < slot_count g
unfolding slot_of
slot_of-lt g block lawful inside =
    let some = some_banks g lawful in
    let last = g.memory_blocks + g.banks - 1 in
    let whole = div-add-mod' last g.banks in
    let rest = mod_below last g.banks some in
    div_below block g.banks (slot_count g) some (omega (arith, whole, rest))

-- no two blocks have one place
pub place_of-alone : (g : Numbers) (a b : ℕ) → place_of g a ≡ place_of g b → a ≡ b
place_of-alone g a b same =
    let banks : bank_of g a ≡ bank_of g b = ap (λ (p : Place). p.bank) same in
    let slots : slot_of g a ≡ slot_of g b =
    slot_by_set g a ∙ ap (λ (p : Place). p.tag * g.sets + p.set) same ∙ sym (slot_by_set g b) in
    slot_of-alone g a b banks slots

-- the groups of any number are a bank's
pub xor_of_groups-bank : (g : Numbers) (count number : ℕ) → IsLawful g → xor_of_groups g.banks count number < g.banks
xor_of_groups-bank g count number lawful =
    let power = lawful.banks in
    rw power.power (xor_of_groups-lt power.exponent count number)

-- the bank is one of the banks
pub bank_of-lt : (g : Numbers) (block : ℕ) → IsLawful g → bank_of g block < g.banks
unfolding bank_of
bank_of-lt g block lawful = xor_of_groups-bank g 16 block lawful

-- there is a set
pub some_sets : (g : Numbers) → IsLawful g → 0 < g.sets
some_sets g lawful =
    let power = lawful.sets in
    rw power.power (pow_pos power.exponent)

-- the set is one of the sets
pub set_of-lt : (g : Numbers) (block : ℕ) → 0 < g.sets → set_of g block < g.sets
unfolding set_of
set_of-lt g block some = mod_below (slot_of g block) g.sets some

-- a slot is no greater than the block
pub slot_at-le : (g : Numbers) (place : Place) (block : ℕ) → IsLawful g → place_of g block ≡ place → slot_at g place ≤ block
unfolding slot_of
slot_at-le g place block lawful same =
    let some = some_banks g lawful in
    let slot : slot_of g block ≡ slot_at g place = slot_by_set g block ∙ ap (λ (p : Place). p.tag * g.sets + p.set) same in
    rw (← slot) (div-le_self block g.banks)

-- the block of a place
pub block_in-is : (g : Numbers) (place : Place) (block : ℕ) → IsLawful g → block < 2 ^ 16 → place_of g block ≡ place
    → block ≡ block_in g place
unfolding slot_of
block_in-is g place block lawful small same =
    let bank : bank_of g block ≡ place.bank = ap (λ (p : Place). p.bank) same in
    let slot : slot_of g block ≡ slot_at g place = slot_by_set g block ∙ ap (λ (p : Place). p.tag * g.sets + p.set) same in
    let more = more_groups g block lawful small in
    block_by_slot g block
    ∙ ap (λ groups. slot_of g block * g.banks + bit_xor (bank_of g block) groups) (sym more)
    ∙ rw (bank, slot) refl

-- the lowest group of the block of a place is a group
pub low_at-lt : (g : Numbers) (place : Place) → IsLawful g → place.bank < g.banks
    → bit_xor place.bank (xor_of_groups g.banks 16 (slot_at g place)) < g.banks
low_at-lt g place lawful bank =
    let power = lawful.banks in
    let bank' : place.bank < 2 ^ power.exponent = rw (← power.power) bank in
    rw power.power (xor_lt power.exponent place.bank _ bank' (xor_of_groups-lt power.exponent 16 (slot_at g place)))

-- the slot of the block of a place
slot_of-block_in : (g : Numbers) (place : Place) → IsLawful g → place.bank < g.banks → slot_of g (block_in g place) ≡ slot_at g place
unfolding slot_of
slot_of-block_in g place lawful bank = div-mul-add (slot_at g place) g.banks _ (low_at-lt g place lawful bank)

-- the bank of the block of a place
bank_of-block_in : (g : Numbers) (place : Place) → IsLawful g → place.bank < g.banks → block_in g place < 2 ^ 16
    → bank_of g (block_in g place) ≡ place.bank
unfolding slot_of
bank_of-block_in g place lawful bank small =
    let slot = slot_of-block_in g place lawful bank in
    let low : block_in g place % g.banks ≡ bit_xor place.bank (xor_of_groups g.banks 16 (slot_at g place)) =
    mod-mul-add (slot_at g place) g.banks _ (low_at-lt g place lawful bank) in
    let more = more_groups g (block_in g place) lawful small in
    bank_of-slot g (block_in g place)
    ∙ ap (λ low. bit_xor low (xor_of_groups g.banks 15 (slot_of g (block_in g place)))) low
    ∙ ap (λ groups. bit_xor (bit_xor place.bank (xor_of_groups g.banks 16 (slot_at g place))) groups)
    (sym more ∙ ap (xor_of_groups g.banks 16) slot)
    ∙ xor_twice place.bank _

-- the place of the block of a place
pub place_of-block_in : (g : Numbers) (place : Place) → IsLawful g → place.bank < g.banks → place.set < g.sets
    → block_in g place < 2 ^ 16 → place_of g (block_in g place) ≡ place
unfolding set_of tag_of
place_of-block_in g place lawful bank set small =
    let banks = bank_of-block_in g place lawful bank small in
    let slot = slot_of-block_in g place lawful bank in
    let sets : set_of g (block_in g place) ≡ place.set =
    ap (λ slot. slot % g.sets) slot ∙ mod-mul-add place.tag g.sets place.set set in
    let tags : tag_of g (block_in g place) ≡ place.tag =
    ap (λ slot. slot / g.sets) slot ∙ div-mul-add place.tag g.sets place.set set in
    same_place (place_of g (block_in g place)) place banks sets tags

-- a place by its three parts
pub place_by_parts : (g : Numbers) (block bank set tag : ℕ) → bank ≡ xor_of_groups g.banks 16 block
    → set ≡ block / g.banks % g.sets → tag ≡ block / g.banks / g.sets
    → ◌≡◌ {A = Place} (record { bank = bank; set = set; tag = tag }) (place_of g block)
unfolding bank_of slot_of set_of tag_of
place_by_parts g block bank set tag banks sets tags = rw (banks, sets, tags) refl

pub ruleset places = (place_of-alone)

-- what is known of slots
pub ruleset slots = (slot_of-alone, slot_of-lt)
