-- Which loads and stores a client may make (TileLink 1.8, section 9: Branch reads, Tip reads and writes).
use Rattle.std.specs.Prelude.{◌≡◌, ◌≢◌, ℕ, ◌+◌, ◌%◌, ◌<◌, ◌≤◌, List, length, slice_range}
use Rattle.tl_types.specs.declared.permission.Perm.TheVariants.{None as p_None, Tip}
use Rattle.tl_protocol.specs.Copy.{perm_of, bytes_of}
use Rattle.tl_protocol.specs.declared.event.Access.{Access}
use Rattle.tl_protocol.specs.declared.shape.Shape.{Shape}
use Rattle.tl_protocol.specs.declared.client.Client.{Client}

-- an access of one to eight bytes lies in one block
abbrev pub FitsBlock : Shape → ℕ → List ℕ → Type 0
FitsBlock shape address bytes =
    (0 < length bytes) × (length bytes ≤ 8) × (address % shape.block_bytes + length bytes ≤ shape.block_bytes)

-- the bytes from an offset on are these
abbrev pub ReadsAs : List ℕ → ℕ → List ℕ → Type 0
ReadsAs block offset bytes = slice_range block offset (offset + length bytes) ≡ bytes

-- a client may load the bytes that its copy has there
abbrev pub MayLoad : Shape → Client → Access → Type 0
MayLoad shape k access =
    FitsBlock shape access.address access.bytes × (perm_of k.held ≢ p_None)
    × ReadsAs (bytes_of k.held) (access.address % shape.block_bytes) access.bytes

-- a client may store where its copy is at Tip
abbrev pub MayStore : Shape → Client → Access → Type 0
MayStore shape k access = FitsBlock shape access.address access.bytes × (perm_of k.held ≡ Tip)
