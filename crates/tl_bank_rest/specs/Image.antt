-- The bytes of a bank's memory (this project's own).
use Rattle.std.specs.Prelude.{ℕ, zero, suc, ◌*◌, List, [], ◌++◌, if◌then◌else◌}
use Rattle.tl_types.specs.Bytes.{image_bytes}
use Rattle.tl_bank_spec.specs.View.{View, end_at}
use Rattle.tl_bank_spec.specs.Views.{not_own}

-- of a block: what the memory has, or of another bank's block what the image has
abbrev pub bytes_in_memory : View → ℕ → List ℕ
bytes_in_memory v block =
    if not_own v block then image_bytes v.image (block * v.geometry.block_bytes) v.geometry.block_bytes
    else (end_at v block).memory

-- of the first n blocks, by block
abbrev pub memory_below : View → ℕ → List ℕ
memory_below v zero = []
memory_below v (suc n) = memory_below v n ++ bytes_in_memory v n

-- of all blocks
abbrev pub image_of : View → List ℕ
image_of v = memory_below v v.geometry.memory_blocks
