-- The blocks of a memory after it is made, and after one is written.
use Rattle.std.proofs.Common.{◌≡◌, ◌≢◌, ◌⊎◌, ℕ, zero, suc, ◌+◌, ◌*◌, ◌/◌, ◌%◌, ◌<◌, ◌≤◌, ◌==◌, true, false, Option, None, Some, List, [], ◌∷◌, ◌++◌, length, take, drop, get_or, replicate, if◌then◌else◌, refl, sym, ◌∙◌, ap, arith, add-one, eq-eqb, eqb-true, inl, inr, length-append, length-take, length-drop, ◌-◌, ◌^◌, min}
use Rattle.std.specs.Fork.{slice_chunk}
use Rattle.std.proofs.lemmas.Bool.{cases_Bool, cases_eq, cases_lt, cases_order, ne_eqb}
use Rattle.std.proofs.lemmas.List.{append_assoc, drop-append-le, drop-take, get_or_past, length-replicate, replicate-append-replicate, take-append-le}
use Rattle.std.specs.Int.{div_ceil}
use Rattle.std.proofs.lemmas.Nat.{div-add-mod', mod_below}
use Rattle.std.proofs.lemmas.Slice.{take-put_mid_below, drop-put_mid, between-put_mid}
use Rattle.std.proofs.Math.Nat.{mul-le-mul_right, pow-suc}
use Rattle.std.proofs.Math.Pow.{pow-lt}
use Rattle.std.proofs.Math.Seq.{drop-cons}
use borrow.Rule.Slice.PartMut.{put_mid}
use Rattle.tl_types.specs.Bytes.{image_bytes}
use Rattle.tl_map.specs.Numbers.{Numbers}
use Rattle.tl_map.specs.Limits.{IsLawful, IsPowerBetween}
use Rattle.tl_map.specs.Places.{bank_of, slot_count}
use Rattle.tl_map.proofs.PlaceLaws.{slot_of-alone, slot_of-lt}
use Rattle.tl_memory.specs.Blocks.{Contents, block_in, filled_up, is_kept, place_in, place_count}

-- whole beats make a block, and a block has a byte
pub whole_beats : (n : ℕ) → IsPowerBetween 8 64 n → (n % 8 ≡ 0) × (0 < n)
whole_beats n h = by_exponent h.exponent n h.power h.least
  where
    by_exponent : (k n : ℕ) → n ≡ 2 ^ k → 8 ≤ n → (n % 8 ≡ 0) × (0 < n)
    by_exponent zero n is least = absurd (omega arith)
    by_exponent (suc zero) n is least = absurd (omega arith)
    by_exponent (suc (suc zero)) n is least = absurd (omega arith)
    by_exponent (suc (suc (suc k))) n is least =
        let eight : 2 ^ (suc (suc (suc k))) ≡ 2 ^ k * 2 * 2 * 2 =
        pow-suc 2 (suc (suc k)) ∙ ap (λ x. x * 2) (pow-suc 2 (suc k)) ∙ ap (λ x. x * 2 * 2) (pow-suc 2 k) in
        (omega (arith, is, eight), omega arith)

-- a size has one logarithm
pub logarithm_is : (a b n : ℕ) → 2 ^ a ≡ n → 2 ^ b ≡ n → a ≡ b
logarithm_is a b n x y =
    elim (cases_order a b) [
      | inl same ↦ same
      | inr (inl less) ↦ absurd (omega (arith, pow-lt less))
      | inr (inr more) ↦ absurd (omega (arith, pow-lt more))
    ]

pub ruleset sizes = (logarithm_is)

-- a block lies within the memory
pub block_inside : (b blocks n : ℕ) → b < blocks → b * n + n ≤ blocks * n
block_inside b blocks n h =
    let more : (b + 1) * n ≤ blocks * n = mul-le-mul_right n (omega arith) in
    omega arith

-- ## A memory that is made

-- past its end an image reads 0
pub padded : (image : List ℕ) (k i : ℕ) → get_or (image ++ replicate k 0) i 0 ≡ get_or image i 0
padded [] zero i = refl
padded [] (suc k) zero = refl
padded [] (suc k) (suc i) = padded [] k i
padded (x ∷ rest) k zero = refl
padded (x ∷ rest) k (suc i) = padded rest k i

-- a part of a list that reads as an image does
pub image_bytes-part : (xs image : List ℕ) (from n : ℕ) → ((i : ℕ) → get_or xs i 0 ≡ get_or image i 0) → from + n ≤ length xs
    → take n (drop from xs) ≡ image_bytes image from n
image_bytes-part xs image from zero same fits = refl
image_bytes-part xs image from (suc n) same fits =
    let inside : from < length xs = omega arith in
    rw (drop-cons xs from 0 inside, ← add-one from, same from, image_bytes-part xs image (from + 1) n same (omega arith)) refl

-- ## Places

-- no two blocks that are kept have one place
pub place_in-alone : (g : Numbers) (bank : Option ℕ) (a b : ℕ) → is_kept g bank a ≡ true → is_kept g bank b ≡ true
    → place_in g bank a ≡ place_in g bank b → a ≡ b
place_in-alone g None a b x y same = same
place_in-alone g (Some bank) a b x y same =
    slot_of-alone g a b (eqb-true (bank_of g a) bank x ∙ sym (eqb-true (bank_of g b) bank y)) same

-- the place of a block of the memory is one of the places
pub place_in-lt : (g : Numbers) (bank : Option ℕ) (b : ℕ) → IsLawful g → b < g.memory_blocks → place_in g bank b < place_count g bank
place_in-lt g None b lawful inside = inside
place_in-lt g (Some bank) b lawful inside = slot_of-lt g b lawful inside

-- ## A memory of which some bytes are laid down

-- with 0 behind them they are as many as there is room for
pub length-filled_up : (room : ℕ) (xs : List ℕ) → length xs ≤ room → length (filled_up room xs) ≡ room
length-filled_up room xs fits =
    omega (arith, length-append xs (replicate (room - length xs) 0), length-replicate {A = ℕ} (room - length xs) 0)

-- and no fewer, however many are laid down
pub filled_up-enough : (room : ℕ) (xs : List ℕ) → room ≤ length (filled_up room xs)
filled_up-enough room xs =
    omega (arith, length-append xs (replicate (room - length xs) 0), length-replicate {A = ℕ} (room - length xs) 0)

-- a block is what the bytes that are laid down read there
pub block_in-laid : (m : Contents) (g : Numbers) (bank : Option ℕ) (room : ℕ) (xs : List ℕ)
    → record { geometry = g; bank = bank; room = room; bytes = filled_up room xs } ≡ m
    → length xs ≤ room → room ≡ place_count g bank * g.block_bytes
    → (b : ℕ) → place_in g bank b < place_count g bank → is_kept g bank b ≡ true
    → block_in m b ≡ image_bytes xs (place_in g bank b * g.block_bytes) g.block_bytes
unfolding block_in
block_in-laid m g bank room xs v fits is b inside kept =
    let n = g.block_bytes in
    let within = block_inside (place_in g bank b) (place_count g bank) n inside in
    rw (← v, kept)
    (image_bytes-part (filled_up room xs) xs (place_in g bank b * n) n (λ i. padded xs (room - length xs) i)
    (omega (arith, within, is, length-filled_up room xs fits)))

-- ## A bank's part that is made

-- past its end an image is 0
pub image_bytes-past : (image : List ℕ) (from n : ℕ) → length image ≤ from → image_bytes image from n ≡ replicate n 0
image_bytes-past image from zero past = refl
image_bytes-past image from (suc n) past =
    let here : get_or image from 0 ≡ 0 = get_or_past image from 0 past in
    rw (here, image_bytes-past image (from + 1) n (omega arith)) refl

-- a bank's part of an image, so far as it is filled: the blocks below a number are the image's, those from it on are 0
pub record IsFilled (g : Numbers) (own : ℕ) (image : List ℕ) (number : ℕ) (m : Contents) : Type 0 where
  pub geometry : m.geometry ≡ g
  pub bank : m.bank ≡ Some own
  pub part : length m.bytes ≡ slot_count g * g.block_bytes
  pub room : m.room ≡ slot_count g * g.block_bytes
  pub below :
      (b : ℕ) → b < g.memory_blocks → bank_of g b ≡ own → b < number
      → block_in m b ≡ image_bytes image (b * g.block_bytes) g.block_bytes
  pub rest : (b : ℕ) → b < g.memory_blocks → bank_of g b ≡ own → number ≤ b → block_in m b ≡ replicate g.block_bytes 0

-- a block of another bank is passed over
pub filled-skip : (g : Numbers) (bank : ℕ) (image : List ℕ) (number : ℕ) (m : Contents) → IsFilled g bank image number m
    → is_kept m.geometry m.bank number ≡ false → IsFilled g bank image (number + 1) m
filled-skip g bank image number m f lost = record {
  geometry = f.geometry;
  bank = f.bank;
  part = f.part;
  room = f.room;
  below = λ b inside own less. f.below b inside own (omega (arith, other b own));
  rest = λ b inside own more. f.rest b inside own (omega arith);
}
  where
    other : (b : ℕ) → bank_of g b ≡ bank → b ≢ number
    other b own same =
        let lost' : is_kept g (Some bank) number ≡ false = rw (f.geometry, f.bank) at lost in
        let kept : (bank_of g number == bank) ≡ true = eq-eqb (bank_of g number) bank (ap (bank_of g) (sym same) ∙ own) in
        cc

-- a block of the bank is filled
pub filled-more : (g : Numbers) (bank : ℕ) (image : List ℕ) (number : ℕ) (bytes : List ℕ) (m after : Contents)
    → IsFilled g bank image number m → after.geometry ≡ m.geometry → after.bank ≡ m.bank → length after.bytes ≡ length m.bytes
    → after.room ≡ m.room
    → ((b : ℕ) → block_in after b ≡ (if b == number then bytes else block_in m b))
    → bytes ≡ image_bytes image (number * g.block_bytes) g.block_bytes
    → IsFilled g bank image (number + 1) after
filled-more g bank image number bytes m after f geometry bank' len room written is = record {
  geometry = geometry ∙ f.geometry;
  bank = bank' ∙ f.bank;
  part = len ∙ f.part;
  room = room ∙ f.room;
  below = λ b inside own less.
      elim (cases_eq b number) [
        | inl same ↦
            let test : (b == number) ≡ true = eq-eqb b number same in
            rw (written b, test) (is ∙ ap (λ x. image_bytes image (x * g.block_bytes) g.block_bytes) (sym same))
        | inr apart ↦ others b apart ∙ f.below b inside own (omega arith)
      ];
  rest = λ b inside own more. others b (λ same. omega arith) ∙ f.rest b inside own (omega arith);
}
  where
    others : (b : ℕ) → b ≢ number → block_in after b ≡ block_in m b
    others b apart =
        let test : (b == number) ≡ false = ne_eqb b number apart in
        rw (written b, test) refl

-- as many blocks as an image needs have its bytes
pub ceil_above : (x n : ℕ) → 0 < n → x ≤ div_ceil x n * n
ceil_above x n some =
    let is = div-add-mod' x n in
    let rest = mod_below x n some in
    elim (cases_eq (x % n) 0) [
      | inl none ↦ let least : min 1 (x % n) ≡ 0 = omega arith in rw least (omega (arith, is))
      | inr more ↦ let least : min 1 (x % n) ≡ 1 = omega arith in rw least (omega (arith, is, rest))
    ]

-- each of them begins within the image
pub ceil_below : (x n i : ℕ) → 0 < n → i < div_ceil x n → i * n < x
ceil_below x n i some below =
    let is = div-add-mod' x n in
    elim (cases_eq (x % n) 0) [
      | inl none ↦
          let least : min 1 (x % n) ≡ 0 = omega arith in
          let less : i + 1 ≤ x / n = omega arith in
          let product = mul-le-mul_right n less in
          omega (arith, is, product)
      | inr more ↦
          let least : min 1 (x % n) ≡ 1 = omega arith in
          let less : i ≤ x / n = omega arith in
          let product = mul-le-mul_right n less in
          omega (arith, is, product)
    ]

-- and so is one of the memory's
pub ceil_inside : (x n blocks i : ℕ) → 0 < n → x ≤ blocks * n → i < div_ceil x n → i < blocks
ceil_inside x n blocks i some fits below =
    elim (cases_lt i blocks) [
      | inl less ↦ less
      | inr past ↦
          let begins = ceil_below x n i some below in
          let product = mul-le-mul_right n past in
          absurd (omega (arith, begins, product))
    ]

-- once it is filled as far as the image goes, each block of the bank is the image's
pub filled-all : (g : Numbers) (bank : ℕ) (image : List ℕ) (number : ℕ) (m : Contents) → IsFilled g bank image number m
    → length image ≤ number * g.block_bytes
    → (b : ℕ) → b < g.memory_blocks → bank_of g b ≡ bank → block_in m b ≡ image_bytes image (b * g.block_bytes) g.block_bytes
filled-all g bank image number m f whole b inside own =
    elim (cases_lt b number) [
      | inl less ↦ f.below b inside own less
      | inr past ↦
          let from : number * g.block_bytes ≤ b * g.block_bytes = mul-le-mul_right g.block_bytes past in
          f.rest b inside own past ∙ sym (image_bytes-past image (b * g.block_bytes) g.block_bytes (omega arith))
    ]

-- ## A memory of which a block is written

-- the bytes that are written at a place
chunk-here : (xs ys : List ℕ) (n at k place : ℕ) → at ≡ place * n → at + n ≤ length xs → k ≡ n → length ys ≡ n
    → slice_chunk (put_mid at k xs ys) n place ≡ ys
chunk-here xs ys n at k place e f s l =
    let bytes : n ≡ at + n - at = omega arith in
    rw (← e)
    (ap (λ m. take m (drop at (put_mid at k xs ys))) bytes ∙ between-put_mid at k xs ys (at + n) (omega arith) (l ∙ bytes))

-- every other place has its own
chunk-other : (xs ys : List ℕ) (n at k place other : ℕ) → at ≡ place * n → at + n ≤ length xs → k ≡ n → length ys ≡ n
    → (other < place) ⊎ (place < other) → slice_chunk (put_mid at k xs ys) n other ≡ slice_chunk xs n other
chunk-other xs ys n at k place other e f s l (inl less) =
    let below : other * n + n ≤ place * n = block_inside other place n less in
    sym (drop-take (other * n) n (put_mid at k xs ys))
    ∙ ap (λ (zs : List ℕ). drop (other * n) zs) (take-put_mid_below at k xs ys (other * n + n) (omega arith) (omega arith))
    ∙ drop-take (other * n) n xs
chunk-other xs ys n at k place other e f s l (inr more) =
    let above : place * n + n ≤ other * n = block_inside place other n more in
    ap (λ (zs : List ℕ). take n zs) (drop-put_mid at k xs ys (other * n) (omega arith) (omega arith) (l ∙ sym s))

-- a block that is written has the new bytes, and every other block its own
written : (g : Numbers) (bank : Option ℕ) (room : ℕ) (xs ys : List ℕ) (at k of b : ℕ) → is_kept g bank of ≡ true
    → at ≡ place_in g bank of * g.block_bytes → at + g.block_bytes ≤ length xs → k ≡ g.block_bytes → length ys ≡ g.block_bytes
    → block_in (record { geometry = g; bank = bank; room = room; bytes = put_mid at k xs ys }) b
    ≡ (if b == of then ys else block_in (record { geometry = g; bank = bank; room = room; bytes = xs }) b)
unfolding block_in
written g bank room xs ys at k of b kept e f s l =
    elim (cases_Bool (is_kept g bank b)) [
      | inl here ↦
          elim (cases_order (place_in g bank b) (place_in g bank of)) [
            | inl same ↦
                let test : (b == of) ≡ true = eq-eqb b of (place_in-alone g bank b of here kept same) in
                rw (here, test) (chunk-here xs ys g.block_bytes at k (place_in g bank b) (e ∙ ap (λ p. p * g.block_bytes) (sym same)) f s l)
            | inr other ↦
                let test : (b == of) ≡ false = ne_eqb b of (apart other) in
                rw (here, test) (chunk-other xs ys g.block_bytes at k (place_in g bank of) (place_in g bank b) e f s l other)
          ]
      | inr lost ↦
          let test : (b == of) ≡ false = ne_eqb b of (λ same. let bad : true ≡ false = sym kept ∙ ap (is_kept g bank) (sym same) ∙ lost in cc) in
          rw (lost, test) refl
    ]
  where
    apart : (place_in g bank b < place_in g bank of) ⊎ (place_in g bank of < place_in g bank b) → b ≢ of
    apart (inl less) same = let equal : place_in g bank b ≡ place_in g bank of = ap (place_in g bank) same in omega arith
    apart (inr more) same = let equal : place_in g bank b ≡ place_in g bank of = ap (place_in g bank) same in omega arith

-- a memory is as long after a write as before
pub length-put_mid : (xs ys : List ℕ) (at k : ℕ) → at + k ≤ length xs → length ys ≡ k → length (put_mid at k xs ys) ≡ length xs
length-put_mid xs ys at k f l =
    omega (arith, length-append (take at xs) (ys ++ drop k (drop at xs)), length-append ys (drop k (drop at xs)), length-take at xs, length-drop k (drop at xs), length-drop at xs)

-- 0 behind 0
zeros_joined : (xs : List ℕ) (a b k : ℕ) → a + b ≡ k → (xs ++ replicate a 0) ++ replicate b 0 ≡ xs ++ replicate k 0
zeros_joined xs a b k e =
    append_assoc xs (replicate a 0) (replicate b 0)
    ∙ ap (λ zs. xs ++ zs) (replicate-append-replicate a b 0 ∙ ap (λ n. replicate n 0) e)

-- bytes that are laid down change nothing
filled_up-twice : (room len : ℕ) (xs : List ℕ) → len ≤ room → filled_up room (filled_up len xs) ≡ filled_up room xs
filled_up-twice room len xs fits =
    let more = len - length xs in
    let count : length (filled_up len xs) ≡ length xs + more =
    omega (arith, length-append xs (replicate more 0), length-replicate {A = ℕ} more 0) in
    zeros_joined xs more (room - length (filled_up len xs)) (room - length xs) (omega (arith, count))

-- what is written among the bytes that are laid down is written among all
filled_up-put_mid : (room at k : ℕ) (xs ys : List ℕ) → at + k ≤ length xs → length ys ≡ k
    → filled_up room (put_mid at k xs ys) ≡ put_mid at k (filled_up room xs) ys
filled_up-put_mid room at k xs ys fits size =
    let rest : List ℕ = replicate (room - length xs) 0 in
    let whole : length (put_mid at k xs ys) ≡ length xs = length-put_mid xs ys at k fits size in
    let front : take at (xs ++ rest) ≡ take at xs = take-append-le at xs rest (omega arith) in
    let middle : drop at (xs ++ rest) ≡ drop at xs ++ rest = drop-append-le at xs rest (omega arith) in
    let back : drop k (drop at xs ++ rest) ≡ drop k (drop at xs) ++ rest =
    drop-append-le k (drop at xs) rest (omega (arith, length-drop at xs)) in
    rw (whole, front, middle, back) (simp append_assoc)

-- a memory after a block is written, as the code has it
pub block_in-written : (m : Contents) (g : Numbers) (bank : Option ℕ) (room room' : ℕ) (xs laid ys after block : List ℕ) (of from k : ℕ)
    → record { geometry = g; bank = bank; room = room; bytes = filled_up room xs } ≡ m
    → length xs ≤ room → room' ≡ room → laid ≡ filled_up (from + g.block_bytes) xs
    → after ≡ put_mid from k laid ys → ys ≡ block
    → is_kept m.geometry m.bank of ≡ true → from ≡ place_in m.geometry m.bank of * m.geometry.block_bytes
    → from + m.geometry.block_bytes ≤ length m.bytes → k ≡ g.block_bytes → length block ≡ m.geometry.block_bytes
    → (b : ℕ)
    → block_in (record { geometry = g; bank = bank; room = room'; bytes = filled_up room' after }) b
    ≡ (if b == of then block else block_in m b)
block_in-written m g bank room room' xs laid ys after block of from k v fits same l a y kept at inside e size = λ b.
    let here : is_kept g bank of ≡ true = rw (← v) at kept in
    let starts : from ≡ place_in g bank of * g.block_bytes = rw (← v) at at in
    let within : from + g.block_bytes ≤ length (filled_up room xs) = rw (← v) at inside in
    let bytes : length block ≡ g.block_bytes = rw (← v) at size in
    let count : length (filled_up (from + g.block_bytes) xs) ≡ length xs + (from + g.block_bytes - length xs) =
    omega (arith, length-append xs (replicate (from + g.block_bytes - length xs) 0), length-replicate {A = ℕ} (from + g.block_bytes - length xs) 0) in
    let all : filled_up room after ≡ put_mid from k (filled_up room xs) block =
    rw (a, y, l)
    (filled_up-put_mid room from k (filled_up (from + g.block_bytes) xs) block (omega (arith, count)) (bytes ∙ sym e)
    ∙ ap (λ zs. put_mid from k zs block) (filled_up-twice room (from + g.block_bytes) xs (omega (arith, within, length-filled_up room xs fits)))) in
    rw (same, ← v, all) (written g bank room (filled_up room xs) block from k of b here starts within e bytes)
