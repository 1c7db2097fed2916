-- The loads and stores of banks, merged in any way, are one memory's.
use Rattle.std.proofs.Common.{◌≡◌, ◌≢◌, ℕ, suc, ◌+◌, ◌*◌, ◌/◌, ◌%◌, ◌<◌, ◌≤◌, Bool, true, false, cond, List, [], ◌∷◌, ◌++◌, length, slice_index, ◌==◌, ⊎_elim, sym, refl, ap, ◌∙◌, subst, arith, div-add-mod', mod-lt, mul-le-mul_right, eq-eqb}
use Rattle.std.proofs.lemmas.Bool.{eqb-false, cases_order}
use Rattle.std.proofs.lemmas.Nat.{div-mul-add}
use Rattle.tl_protocol.specs.declared.event.Access.{Access}
use Rattle.tl_protocol.specs.declared.event.Event.{Event}
use Rattle.tl_protocol.specs.declared.event.Event.TheVariants.{Load, Store}
use Rattle.tl_protocol.specs.declared.shape.Shape.{Shape}
use Rattle.tl_protocol.specs.Protocol.{Block, block_of}
use Rattle.tl_protocol.specs.Access.{FitsBlock, ReadsAs}
use Rattle.tl_protocol.specs.Runs.{MayNext, after_next, IsRunFrom, at_reset}
use Rattle.tl_protocol.specs.Merges.{on_bank}
use Rattle.tl_protocol.specs.Coherent.{byte_after, last_from}
use Rattle.tl_protocol.specs.OneMemory.{accesses, EveryMergeIsOneMemory}
use Rattle.tl_protocol.proofs.Messages.{bytes_now}
use Rattle.tl_protocol.proofs.Values.{byte_below, byte_above, load_now}
use Rattle.tl_protocol.proofs.Coherent.{Kept, AllKept, step_kept, reset_kept}

-- the access lies in one block, and a load got these bytes
abbrev AccessIs : Shape → (ℕ → ℕ) → Event → Type 0
AccessIs shape byte (Load access) =
    FitsBlock shape access.address access.bytes
    × ((i : ℕ) → i < length access.bytes → slice_index access.bytes i ≡ byte (access.address + i))
AccessIs shape byte (Store access) = FitsBlock shape access.address access.bytes
AccessIs shape byte e = Unit {0}

-- each of these accesses lies in one block, and each load got the bytes last stored before it
abbrev ReadFrom : Shape → (ℕ → ℕ) → List Event → Type 0
ReadFrom shape byte [] = Unit {0}
ReadFrom shape byte (e ∷ es) = AccessIs shape byte e × ReadFrom shape (λ a. byte_after e a (byte a)) es

-- ## A run reads so

-- an access that is permitted lies in one block, and a load got the newest bytes
access_is :
    (shape : Shape) (byte : ℕ → ℕ) (s : ℕ → Block) (e : Event) → MayNext shape s e → AllKept shape byte s
    → AccessIs shape byte e
access_is shape byte s (Load access) permitted kept =
    let address : ℕ = access.address in
    let block : ℕ = address / shape.block_bytes in
    let k : Kept shape byte block (s block) = kept block in
    let may = permitted.1.1 in (
      may.0,
      λ i l. load_now shape byte address access.bytes k.now i may.0 k.is_now
          (subst (λ (own : List ℕ). ReadsAs own (address % shape.block_bytes) access.bytes)
          (bytes_now k.now ((s block).client access.client).held may.1 ((k.inv).local access.client).current) may.2) l,
    )
access_is shape byte s (Store access) permitted kept = permitted.1.1.0
access_is shape byte s e permitted kept = tt

-- so it is for a run
run_reads :
    (shape : Shape) (byte : ℕ → ℕ) (s : ℕ → Block) (events : List Event) → AllKept shape byte s → IsRunFrom shape s events
    → ReadFrom shape byte events
run_reads shape byte s [] kept run = tt
run_reads shape byte s (e ∷ es) kept run = (
  access_is shape byte s e run.0 kept,
  run_reads shape (λ a. byte_after e a (byte a)) (after_next shape s e) es (step_kept shape byte s e run.0 kept) run.1,
)

-- ## Only loads and stores count

-- the other events change no byte
accesses_read :
    (shape : Shape) (byte : ℕ → ℕ) (events : List Event) → ReadFrom shape byte events → ReadFrom shape byte (accesses events)
accesses_read shape byte [] r = tt
accesses_read shape byte (Load access ∷ es) r = (r.0, accesses_read shape byte es r.1)
accesses_read shape byte (Store access ∷ es) r =
    (r.0, accesses_read shape (λ a. byte_after (Store access) a (byte a)) es r.1)
accesses_read shape byte (e ∷ es) r = accesses_read shape byte es r.1

-- ## Accesses of different banks

-- each byte of an access is in its block
same_block :
    (shape : Shape) (address : ℕ) (bytes : List ℕ) (i : ℕ) → FitsBlock shape address bytes → i < length bytes
    → (address + i) / shape.block_bytes ≡ address / shape.block_bytes
same_block shape address bytes i fits l =
    let size : ℕ = shape.block_bytes in
    let q : ℕ = address / size in
    let offset : ℕ = address % size in
    let room : offset + length bytes ≤ size = fits.2 in
    let at : q * size + offset ≡ address = div-add-mod' address size in
    let place : address + i ≡ q * size + (offset + i) = omega arith in
    ap (λ (a : ℕ). a / size) place ∙ div-mul-add q size (offset + i) (omega arith)

-- a store leaves the bytes of other blocks
byte_beside :
    (shape : Shape) (access : Access) (a x : ℕ) → FitsBlock shape access.address access.bytes
    → a / shape.block_bytes ≢ access.address / shape.block_bytes → byte_after (Store access) a x ≡ x
byte_beside shape access a x fits n =
    let address : ℕ = access.address in
    let bytes : List ℕ = access.bytes in
    let size : ℕ = shape.block_bytes in
    let q : ℕ = address / size in
    let offset : ℕ = address % size in
    let own : ℕ = a / size in
    let place : ℕ = a % size in
    let some : 0 < length bytes = fits.0 in
    let room : offset + length bytes ≤ size = fits.2 in
    let at : q * size + offset ≡ address = div-add-mod' address size in
    let there : own * size + place ≡ a = div-add-mod' a size in
    let below : place < size = mod-lt a (let wide : 0 < size = omega arith in wide) in
    ⊎_elim
    (λ (e : own ≡ q). absurd (n e))
    (⊎_elim
    (λ (low : own < q). let far : suc own * size ≤ q * size = mul-le-mul_right size low in
    byte_below access a x (omega arith))
    (λ (high : q < own). let far : suc q * size ≤ own * size = mul-le-mul_right size high in
    byte_above access a x (omega arith)))
    (cases_order own q)

-- an access says the same of bytes that agree in its block
moved :
    (shape : Shape) (byte other : ℕ → ℕ) (e : Event)
    → ((a : ℕ) → a / shape.block_bytes ≡ block_of shape e → other a ≡ byte a) → AccessIs shape other e
    → AccessIs shape byte e
moved shape byte other (Load access) same is =
    (is.0, λ i l. is.1 i l ∙ same (access.address + i) (same_block shape access.address access.bytes i is.0 l))
moved shape byte other (Store access) same is = is
moved shape byte other e same is = tt

-- an access changes no byte outside its block
left :
    (shape : Shape) (byte : ℕ → ℕ) (e : Event) (a x : ℕ) → AccessIs shape byte e → a / shape.block_bytes ≢ block_of shape e
    → byte_after e a x ≡ x
left shape byte (Store access) a x is n = byte_beside shape access a x is n
left shape byte e a x is n = refl

-- the bytes that each bank knows are those of the addresses in it
abbrev Agrees : Shape → (ℕ → ℕ) → (ℕ → ℕ → ℕ) → (ℕ → ℕ) → Type 0
Agrees shape bank_of banks byte = (bank a : ℕ) → bank ≡ bank_of (a / shape.block_bytes) → banks bank a ≡ byte a

-- the banks' bytes after an event of one of them
abbrev moved_on : Shape → (ℕ → ℕ) → (ℕ → ℕ → ℕ) → Event → ℕ → ℕ → ℕ
moved_on shape bank_of banks e bank =
    cond (bank == bank_of (block_of shape e)) (λ a. byte_after e a (banks bank a)) (banks bank)

-- the first event of a bank
first_read :
    (shape : Shape) (byte : ℕ → ℕ) (e : Event) (es : List Event) (t : Bool) → t ≡ true → ReadFrom shape byte (cond t (e ∷ es) es)
    → AccessIs shape byte e
first_read shape byte e es true q r = r.0
first_read shape byte e es false q r = cc

-- the events of a bank behind the first
rest_read :
    (shape : Shape) (byte : ℕ → ℕ) (e : Event) (es : List Event) (t : Bool) → ReadFrom shape byte (cond t (e ∷ es) es)
    → ReadFrom shape (cond t (λ a. byte_after e a (byte a)) byte) es
rest_read shape byte e es true r = r.1
rest_read shape byte e es false r = r

-- after an event a bank still knows the bytes of the addresses in it
moved_agrees :
    (x : ℕ) (e : Event) (a y : ℕ) (other : ℕ → ℕ) (t : Bool) → other a ≡ y → (t ≡ false → byte_after e a y ≡ y)
    → cond t (λ (b : ℕ). byte_after e b (other b)) other a ≡ byte_after e a y
moved_agrees x e a y other true same n = ap (byte_after e a) same
moved_agrees x e a y other false same n = same ∙ sym (n refl)

-- banks whose loads got the bytes last stored before them there, merged in any way
merge_reads :
    (shape : Shape) (bank_of : ℕ → ℕ) (banks : ℕ → ℕ → ℕ) (byte : ℕ → ℕ) (merged : List Event)
    → Agrees shape bank_of banks byte → ((bank : ℕ) → ReadFrom shape (banks bank) (on_bank shape bank_of bank merged))
    → ReadFrom shape byte merged
merge_reads shape bank_of banks byte [] agrees each = tt
merge_reads shape bank_of banks byte (e ∷ es) agrees each =
    let own : ℕ = bank_of (block_of shape e) in
    let first : AccessIs shape (banks own) e =
    first_read shape (banks own) e (on_bank shape bank_of own es) (own == own) (eq-eqb own own refl) (each own) in
    let is : AccessIs shape byte e = moved shape byte (banks own) e (λ a q. agrees own a (sym (ap bank_of q))) first in (
      is,
      merge_reads shape bank_of (moved_on shape bank_of banks e) (λ a. byte_after e a (byte a)) es
          (λ bank a q. moved_agrees 0 e a (byte a) (banks bank) (bank == own) (agrees bank a q)
          (λ other. left shape byte e a (byte a) is (λ same. eqb-false bank own other (q ∙ ap bank_of same))))
          (λ bank. rest_read shape (banks bank) e (on_bank shape bank_of bank es) (bank == own) (each bank)),
    )

-- ## What each load got

-- what a load in the middle got
read_at :
    (shape : Shape) (byte : ℕ → ℕ) (before : List Event) (access : Access) (rest : List Event)
    → ReadFrom shape byte (before ++ Load access ∷ rest) → (i : ℕ) → i < length access.bytes
    → slice_index access.bytes i ≡ last_from (byte (access.address + i)) before (access.address + i)
read_at shape byte [] access rest r i l = r.0.1 i l
read_at shape byte (e ∷ es) access rest r i l =
    read_at shape (λ a. byte_after e a (byte a)) es access rest r.1 i l

-- merged accesses of the runs of banks are one memory's
pub every_merge_is_one_memory : EveryMergeIsOneMemory
every_merge_is_one_memory shape image bank_of logs merged runs restricts before access rest e =
    let each : (bank : ℕ) → ReadFrom shape (slice_index image) (on_bank shape bank_of bank merged) =
    λ bank. subst (λ (es : List Event). ReadFrom shape (slice_index image) es) (sym (restricts bank))
    (accesses_read shape (slice_index image) (logs bank)
    (run_reads shape (slice_index image) (at_reset shape image) (logs bank) (reset_kept shape image) (runs bank))) in
    let all : ReadFrom shape (slice_index image) merged =
    merge_reads shape bank_of (λ bank. slice_index image) (slice_index image) merged (λ bank a q. refl) each in
    read_at shape (slice_index image) before access rest
    (subst (λ (es : List Event). ReadFrom shape (slice_index image) es) e all)
