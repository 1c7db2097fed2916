-- The bytes of a block as a bank shows them.
use Rattle.std.proofs.Common.{◌≡◌, ℕ, ◌*◌, ◌<◌, ◌≤◌, ◌^◌, List, Some, None, refl, sym, arith, inl, inr}
use Rattle.std.proofs.Math.Nat.{mul-le-mul}
use Rattle.std.proofs.lemmas.Bool.{cases_Bool}
use Rattle.tl_types.specs.Bytes.{image_bytes}
use Rattle.tl_types.specs.declared.limits.TheConstants.{BLOCKS, BLOCK_BYTES}
use Rattle.tl_map.specs.Limits.{IsLawful}
use Rattle.tl_map.specs.Numbers.{Numbers}
use Rattle.tl_bank.specs.Contents.{memory_at}
use Rattle.tl_bank_spec.specs.View.{View, end_at}
use Rattle.tl_bank_spec.specs.Views.{not_own}
use Rattle.tl_bank_rest.specs.Image.{bytes_in_memory}

-- what the memory is shown to have it has
pub shown-bytes : (v : View) (block : ℕ) (bytes : List ℕ) → memory_at v block ≡ Some bytes → bytes ≡ bytes_in_memory v block
shown-bytes v block bytes h =
    elim (cases_Bool (not_own v block)) [
      | inl e ↦ let bad : None ≡ Some bytes = (rw e at h) in cc
      | inr e ↦ let is : Some (end_at v block).memory ≡ Some bytes = (rw e at h) in let same : (end_at v block).memory ≡ bytes = cc in rw e (sym same)
    ]

-- of which it is shown to have none, that is another bank's
pub hidden-bytes : (v : View) (block : ℕ) → memory_at v block ≡ None
    → image_bytes v.image (block * v.geometry.block_bytes) v.geometry.block_bytes ≡ bytes_in_memory v block
hidden-bytes v block h =
    elim (cases_Bool (not_own v block)) [
      | inl e ↦ rw e refl
      | inr e ↦ let bad : Some (end_at v block).memory ≡ None = (rw e at h) in cc
    ]

-- where a block of the memory begins is a small number
pub start-small : (g : Numbers) (block : ℕ) → IsLawful g → block < g.memory_blocks → block * g.block_bytes < 2 ^ 32
start-small g block lawful lt =
    let blocks : g.memory_blocks ≤ BLOCKS = lawful.memory_blocks.most in
    let bytes : g.block_bytes ≤ BLOCK_BYTES = lawful.block_bytes.most in
    let few : block ≤ BLOCKS = omega arith in
    let most : block * g.block_bytes ≤ BLOCKS * BLOCK_BYTES = mul-le-mul few bytes in
    omega (arith, most)
