-- The bytes last stored, as one list for each block and as one byte for each address.
use Rattle.std.proofs.Common.{◌≡◌, ◌≢◌, ℕ, zero, suc, ◌+◌, ◌-◌, ◌*◌, ◌/◌, ◌%◌, ◌<◌, ◌≤◌, Bool, cond, List, ◌++◌, length, take, drop, get_or, slice_index, nat_le, nat_lt, ⊎_elim, sym, refl, ap, ◌∙◌, subst, arith, length-append, length-drop, length-take-le, get_or-take, get_or-drop, div-add-mod', mul-le-mul_right, le-leb, lt-ltb, le-ltb}
use Rattle.std.proofs.lemmas.List.{append_assoc, get_or_append_left, get_or-append_right}
use Rattle.std.proofs.lemmas.Bool.{lt-leb, and_from, and_left, and_right, cases_lt, cases_order}
use Rattle.tl_types.proofs.Image.{length-image_bytes}
use Rattle.tl_protocol.specs.declared.event.Access.{Access}
use Rattle.tl_protocol.specs.declared.event.Event.{Event}
use Rattle.tl_protocol.specs.declared.event.Event.TheVariants.{Store}
use Rattle.tl_protocol.specs.declared.shape.Shape.{Shape}
use Rattle.tl_protocol.specs.Protocol.{Block, block_of, May}
use Rattle.tl_protocol.specs.Access.{FitsBlock, ReadsAs}
use Rattle.tl_types.specs.Bytes.{overwrite, image_bytes}
use Rattle.tl_protocol.specs.Coherent.{byte_after}
use Rattle.tl_protocol.proofs.Steps.{now_after}

-- ## A list with others written over it

-- the three parts of it
overwritten :
    (offset : ℕ) (bytes own : List ℕ)
    → overwrite offset bytes own ≡ take offset own ++ (bytes ++ drop (offset + length bytes) own)
overwritten offset bytes own = append_assoc (take offset own) bytes (drop (offset + length bytes) own)

-- it is as long as before
pub overwrite_length :
    (offset : ℕ) (bytes own : List ℕ) → offset + length bytes ≤ length own → length (overwrite offset bytes own) ≡ length own
overwrite_length offset bytes own h =
    let tail : List ℕ = drop (offset + length bytes) own in
    let a = length-append (take offset own) (bytes ++ tail) in
    let b = length-append bytes tail in
    let c : length (take offset own) ≡ offset = length-take-le offset own (omega arith) in
    let d = length-drop (offset + length bytes) own in
    ap length (overwritten offset bytes own) ∙ omega arith

-- below the offset it is as before
pub overwrite_before :
    (offset : ℕ) (bytes own : List ℕ) (i : ℕ) → offset ≤ length own → i < offset
    → get_or (overwrite offset bytes own) i 0 ≡ get_or own i 0
overwrite_before offset bytes own i h l =
    let c : length (take offset own) ≡ offset = length-take-le offset own h in
    ap (λ (u : List ℕ). get_or u i 0) (overwritten offset bytes own)
    ∙ (get_or_append_left (take offset own) (bytes ++ drop (offset + length bytes) own) 0 i (omega arith)
    ∙ get_or-take offset own i 0 l)

-- at the offset it has the other bytes
pub overwrite_in :
    (offset : ℕ) (bytes own : List ℕ) (i : ℕ) → offset ≤ length own → offset ≤ i → i < offset + length bytes
    → get_or (overwrite offset bytes own) i 0 ≡ get_or bytes (i - offset) 0
overwrite_in offset bytes own i h from to =
    ap (λ (u : List ℕ). get_or u i 0) (overwritten offset bytes own)
    ∙ (get_or-append_right (take offset own) (bytes ++ drop (offset + length bytes) own) offset i 0
    (length-take-le offset own h) from
    ∙ get_or_append_left bytes (drop (offset + length bytes) own) 0 (i - offset) (omega arith))

-- behind them it is as before
pub overwrite_after :
    (offset : ℕ) (bytes own : List ℕ) (i : ℕ) → offset ≤ length own → offset + length bytes ≤ i
    → get_or (overwrite offset bytes own) i 0 ≡ get_or own i 0
overwrite_after offset bytes own i h from =
    let tail : List ℕ = drop (offset + length bytes) own in
    let place : offset + length bytes + (i - offset - length bytes) ≡ i = omega arith in
    ap (λ (u : List ℕ). get_or u i 0) (overwritten offset bytes own)
    ∙ (get_or-append_right (take offset own) (bytes ++ tail) offset i 0 (length-take-le offset own h) (omega arith)
    ∙ (get_or-append_right bytes tail (length bytes) (i - offset) 0 refl (omega arith)
    ∙ (get_or-drop (offset + length bytes) own (i - offset - length bytes) 0 ∙ ap (λ (j : ℕ). get_or own j 0) place)))

-- ## A byte after a store

-- a byte that the store covers
pub byte_in :
    (access : Access) (address x : ℕ) → access.address ≤ address → address < access.address + length access.bytes
    → byte_after (Store access) address x ≡ slice_index access.bytes (address - access.address)
byte_in access address x lower upper =
    let from : ℕ = access.address in
    let bytes : List ℕ = access.bytes in
    ap (λ (t : Bool). cond t (slice_index bytes (address - from)) x)
    (and_from (nat_le from address) (nat_lt address (from + length bytes)) (le-leb from address lower)
    (lt-ltb address (from + length bytes) upper))

-- a byte below the store
pub byte_below : (access : Access) (address x : ℕ) → address < access.address → byte_after (Store access) address x ≡ x
byte_below access address x lower =
    let from : ℕ = access.address in
    let bytes : List ℕ = access.bytes in
    ap (λ (t : Bool). cond t (slice_index bytes (address - from)) x)
    (and_left (nat_le from address) (nat_lt address (from + length bytes)) (lt-leb from address lower))

-- a byte above the store
pub byte_above :
    (access : Access) (address x : ℕ) → access.address + length access.bytes ≤ address
    → byte_after (Store access) address x ≡ x
byte_above access address x upper =
    let from : ℕ = access.address in
    let bytes : List ℕ = access.bytes in
    ap (λ (t : Bool). cond t (slice_index bytes (address - from)) x)
    (and_right (nat_le from address) (nat_lt address (from + length bytes)) (le-ltb address (from + length bytes) upper))

-- ## The bytes of one block

-- the list has the bytes from an address on
pub record IsNow (size : ℕ) (byte : ℕ → ℕ) (from : ℕ) (now : List ℕ) : Type 0 where
  pub long : length now ≡ size
  pub each : (i : ℕ) → i < size → get_or now i 0 ≡ byte (from + i)

-- each of them
pub image_each :
    (image : List ℕ) (from n i : ℕ) → i < n → get_or (image_bytes image from n) i 0 ≡ slice_index image (from + i)
image_each image from zero i l = absurd (omega arith)
image_each image from (suc n) zero l = let same : from ≡ from + 0 = omega arith in ap (slice_index image) same
image_each image from (suc n) (suc i) l =
    let same : from + 1 + i ≡ from + suc i = omega arith in
    image_each image (from + 1) n i (omega arith) ∙ ap (slice_index image) same

-- a block of the image
pub image_now : (image : List ℕ) (size from : ℕ) → IsNow size (slice_index image) from (image_bytes image from size)
image_now image size from = record { long = length-image_bytes image from size; each = image_each image from size }

-- a store in the block
pub store_now :
    (shape : Shape) (byte : ℕ → ℕ) (block : ℕ) (access : Access) (now : List ℕ)
    → FitsBlock shape access.address access.bytes
    → block ≡ access.address / shape.block_bytes → IsNow shape.block_bytes byte (block * shape.block_bytes) now
    → IsNow shape.block_bytes (λ a. byte_after (Store access) a (byte a)) (block * shape.block_bytes)
    (overwrite (access.address % shape.block_bytes) access.bytes now)
store_now shape byte block access now fits e h =
    let address : ℕ = access.address in
    let bytes : List ℕ = access.bytes in
    let size : ℕ = shape.block_bytes in
    let offset : ℕ = address % size in
    let from : ℕ = block * size in
    let at : from + offset ≡ address = subst (λ (q : ℕ). q * size + offset ≡ address) (sym e) (div-add-mod' address size) in
    let long : length now ≡ size = h.long in
    let room : offset + length bytes ≤ size = fits.2 in
    record {
      long = overwrite_length offset bytes now (omega arith) ∙ h.long;
      each = λ i l. ⊎_elim
          (λ (before : i < offset). overwrite_before offset bytes now i (omega arith) before
          ∙ (h.each i l ∙ sym (byte_below access (from + i) (byte (from + i)) (omega arith))))
          (λ (from_here : offset ≤ i). ⊎_elim
          (λ (within : i < offset + length bytes). overwrite_in offset bytes now i (omega arith) from_here within
          ∙ (ap (slice_index bytes) (let place : i - offset ≡ from + i - address = omega arith in place)
          ∙ sym (byte_in access (from + i) (byte (from + i)) (omega arith) (omega arith))))
          (λ (past : offset + length bytes ≤ i). overwrite_after offset bytes now i (omega arith) past
          ∙ (h.each i l ∙ sym (byte_above access (from + i) (byte (from + i)) (omega arith))))
          (cases_lt i (offset + length bytes)))
          (cases_lt i offset);
    }

-- a store in another block
pub beside_now :
    (shape : Shape) (byte : ℕ → ℕ) (block : ℕ) (access : Access) (now : List ℕ)
    → FitsBlock shape access.address access.bytes
    → block ≢ access.address / shape.block_bytes → IsNow shape.block_bytes byte (block * shape.block_bytes) now
    → IsNow shape.block_bytes (λ a. byte_after (Store access) a (byte a)) (block * shape.block_bytes) now
beside_now shape byte block access now fits n h =
    let address : ℕ = access.address in
    let bytes : List ℕ = access.bytes in
    let size : ℕ = shape.block_bytes in
    let q : ℕ = address / size in
    let offset : ℕ = address % size in
    let from : ℕ = block * size in
    let at : q * size + offset ≡ address = div-add-mod' address size in
    let room : offset + length bytes ≤ size = fits.2 in
    record {
      long = h.long;
      each = λ i l. h.each i l ∙ sym (⊎_elim
          (λ (e : block ≡ q). absurd (n e))
          (⊎_elim
          (λ (low : block < q). let far : suc block * size ≤ q * size = mul-le-mul_right size low in
          byte_below access (from + i) (byte (from + i)) (omega arith))
          (λ (high : q < block). let far : suc q * size ≤ block * size = mul-le-mul_right size high in
          byte_above access (from + i) (byte (from + i)) (omega arith)))
          (cases_order block q));
    }

-- an event of the block
pub event_now :
    (shape : Shape) (byte : ℕ → ℕ) (block : ℕ) (now : List ℕ) (s : Block) (e : Event) → May shape s e
    → block ≡ block_of shape e → IsNow shape.block_bytes byte (block * shape.block_bytes) now
    → IsNow shape.block_bytes (λ a. byte_after e a (byte a)) (block * shape.block_bytes) (now_after shape now e)
event_now shape byte block now s (Store access) m q h = store_now shape byte block access now m.1.1.0 q h
event_now shape byte block now s e m q h = h

-- an event of another block
pub other_now :
    (shape : Shape) (byte : ℕ → ℕ) (block : ℕ) (now : List ℕ) (s : Block) (e : Event) → May shape s e
    → block ≢ block_of shape e → IsNow shape.block_bytes byte (block * shape.block_bytes) now
    → IsNow shape.block_bytes (λ a. byte_after e a (byte a)) (block * shape.block_bytes) now
other_now shape byte block now s (Store access) m n h = beside_now shape byte block access now m.1.1.0 n h
other_now shape byte block now s e m n h = h

-- the bytes that a load got
pub read_each :
    (now bytes : List ℕ) (offset i : ℕ) → ReadsAs now offset bytes → i < length bytes
    → get_or bytes i 0 ≡ get_or now (offset + i) 0
read_each now bytes offset i reads l =
    ap (λ (u : List ℕ). get_or u i 0) (sym reads)
    ∙ (get_or-take (offset + length bytes - offset) (drop offset now) i 0 (omega arith) ∙ get_or-drop offset now i 0)

-- a load of bytes that are the newest got them
pub load_now :
    (shape : Shape) (byte : ℕ → ℕ) (address : ℕ) (bytes now : List ℕ) (i : ℕ) → FitsBlock shape address bytes
    → IsNow shape.block_bytes byte (address / shape.block_bytes * shape.block_bytes) now
    → ReadsAs now (address % shape.block_bytes) bytes → i < length bytes → slice_index bytes i ≡ byte (address + i)
load_now shape byte address bytes now i fits h reads l =
    let size : ℕ = shape.block_bytes in
    let offset : ℕ = address % size in
    let room : offset + length bytes ≤ size = fits.2 in
    let at : address / size * size + offset ≡ address = div-add-mod' address size in
    let place : address / size * size + (offset + i) ≡ address + i = omega arith in
    read_each now bytes offset i reads l ∙ (h.each (offset + i) (omega arith) ∙ ap byte place)
