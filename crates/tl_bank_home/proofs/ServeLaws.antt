-- A request of home to the memory, and the reply.
use Rattle.std.proofs.Common.{◌≡◌, ◌≢◌, ℕ, ◌*◌, ◌^◌, ◌<◌, ◌==◌, List, if◌then◌else◌, refl, sym, ◌∙◌, ap, arith, inl, inr}
use Rattle.std.proofs.Math.Nat.{mul-div_cancel, mul-mod_left}
use Rattle.std.proofs.lemmas.Bool.{cases_eq, ne_eqb}
use Rattle.std.proofs.lemmas.Nat.{pow_pos}
use Rattle.std.proofs.Common.{eq-eqb}
use Rattle.tl_map.specs.Numbers.{Numbers}
use Rattle.tl_map.specs.Limits.{IsLawful}
use Rattle.tl_map.specs.Places.{bank_of, block_of_address}
use Rattle.tl_protocol.specs.Home.{IsRequest}
use Rattle.tl_protocol.specs.declared.home.Outward.{Outward}
use Rattle.tl_protocol.specs.declared.home.Outward.TheVariants.{Quiet, Get, Data, Put, PutAck}
use Rattle.tl_memory.specs.Blocks.{Contents, block_in, block_after, reply_of_memory, IsOfBlock}
use Rattle.tl_memory.proofs.BlockLaws.{block_inside}
use Rattle.tl_memory.specs.declared.request.Reply.{Reply}
use Rattle.tl_memory.specs.declared.request.Reply.TheVariants.{AccessAckData, AccessAck}
use Rattle.tl_bank_home.specs.Homes.{HomeState, IsHome, geometry_in, bank_in, request_of, reply_to, arriving, served_outward, served_memory}

-- the block of a block's address
pub address_block : (g : Numbers) (size block : ℕ) → 2 ^ size ≡ g.block_bytes → block_of_address g (block * g.block_bytes) ≡ block
address_block g size block is = let some : 0 < 2 ^ size = pow_pos size in mul-div_cancel block (omega arith)

-- home may ask the memory for a block of the bank
pub may_ask : (h : HomeState) (size block : ℕ) → IsHome h → IsLawful (geometry_in h) → 2 ^ size ≡ (geometry_in h).block_bytes
    → block < (geometry_in h).memory_blocks → bank_of (geometry_in h) block ≡ bank_in h
    → IsOfBlock h.memory size (block * (geometry_in h).block_bytes)
unfolding geometry_in bank_in
may_ask h size block home lawful is inside own = record {
  size = is ∙ sym (ap (λ (g : Numbers). g.block_bytes) home.geometry);
  address = record { inside = rw home.geometry more; aligned = rw home.geometry (mul-mod_left block h.directory.geometry.block_bytes) };
  kept = rw (home.geometry, home.bank, address_block h.directory.geometry size block is) (eq-eqb (bank_of h.directory.geometry block) h.directory.bank own);
}
  where
    more : block * h.directory.geometry.block_bytes < h.directory.geometry.memory_blocks * h.directory.geometry.block_bytes
    more =
        let least = lawful.block_bytes.least in
        let within = block_inside block h.directory.geometry.memory_blocks h.directory.geometry.block_bytes inside in
        omega arith

-- what is a request is not nothing
pub request_passes : (out : Outward) → IsRequest out → out ≢ Quiet
request_passes out (inl get) quiet = cc
request_passes out (inr put) quiet = let is = put.1 in cc

-- a reply passes
pub reply_passes : (reply : Reply) → arriving reply ≢ Quiet
reply_passes reply = elim reply as (λ r. arriving r ≢ Quiet) [ AccessAckData size bytes ↦ λ is. cc | AccessAck size ↦ λ is. cc ]

-- the reply to home's request
pub replies : (m : Contents) (size address block : ℕ) (out : Outward) → block_of_address m.geometry address ≡ block
    → reply_of_memory m (request_of size address out) ≡ reply_to size (block_in m block) out
replies m size address block Quiet at = rw at refl
replies m size address block Get at = rw at refl
replies m size address block (Data bytes) at = rw at refl
replies m size address block (Put bytes) at = refl
replies m size address block PutAck at = rw at refl

-- what is on the way then
pub leaves_outward : (size : ℕ) (memory : List ℕ) (out : Outward) → IsRequest out
    → arriving (reply_to size memory out) ≡ served_outward memory out
leaves_outward size memory Quiet (inl is) = cc
leaves_outward size memory Quiet (inr is) = let no = is.1 in cc
leaves_outward size memory Get h = refl
leaves_outward size memory (Data bytes) (inl is) = cc
leaves_outward size memory (Data bytes) (inr is) = let no = is.1 in cc
leaves_outward size memory (Put bytes) h = refl
leaves_outward size memory PutAck (inl is) = cc
leaves_outward size memory PutAck (inr is) = let no = is.1 in cc

-- a choice between a value and itself
same_choice : (m : Contents) (b block : ℕ) → block_in m b ≡ (if b == block then block_in m block else block_in m b)
same_choice m b block =
    elim (cases_eq b block) [
      | inl same ↦ let test = eq-eqb b block same in rw test (ap (block_in m) same)
      | inr apart ↦ let test = ne_eqb b block apart in rw test refl
    ]

-- the bytes in memory then
pub leaves_memory : (m : Contents) (size address block : ℕ) (out : Outward) → block_of_address m.geometry address ≡ block
    → (b : ℕ) → block_after m (request_of size address out) b ≡ (if b == block then served_memory (block_in m block) out else block_in m b)
leaves_memory m size address block Quiet at b = same_choice m b block
leaves_memory m size address block Get at b = same_choice m b block
leaves_memory m size address block (Data bytes) at b = same_choice m b block
leaves_memory m size address block (Put bytes) at b = rw at refl
leaves_memory m size address block PutAck at b = same_choice m b block
