-- The messages between home and the memory, as text (TileLink 1.8, section 7; the text is this project's own).
use Rattle.std.specs.Prelude.{ℕ, List, [], ◌++◌, codes}
use Rattle.tl_types.specs.declared.kind.Kind.{Kind}
use Rattle.tl_types.specs.declared.kind.Kind.TheVariants as kind
use Rattle.tl_script_words.specs.Hex.{hex_text, address_text}
use Rattle.tl_text.specs.declared.memory.BlockSize.{BlockSize}
use Rattle.tl_text.specs.declared.memory.BlockSize.TheVariants.{Bytes8, Bytes16, Bytes32, Bytes64}
use Rattle.tl_text.specs.declared.memory.MemoryMessage.{MemoryMessage}
use Rattle.tl_text.specs.declared.memory.MemoryMessage.TheVariants.{Get, PutFullData, AccessAckData, AccessAck}

-- the bytes of a block
abbrev pub bytes_of_size : BlockSize → ℕ
bytes_of_size Bytes8 = 8
bytes_of_size Bytes16 = 16
bytes_of_size Bytes32 = 32
bytes_of_size Bytes64 = 64

-- the base-2 logarithm of them
abbrev pub log_of_size : BlockSize → ℕ
log_of_size Bytes8 = 3
log_of_size Bytes16 = 4
log_of_size Bytes32 = 5
log_of_size Bytes64 = 6

-- what a message is
abbrev pub memory_kind : MemoryMessage → Kind
memory_kind (Get address) = kind.Get
memory_kind (PutFullData address bytes) = kind.PutFullData
memory_kind (AccessAckData bytes) = kind.AccessAckData
memory_kind AccessAck = kind.AccessAck

-- its address and its bytes, as far as it has them, with a space before each
abbrev pub operands_text : MemoryMessage → List ℕ
operands_text (Get address) = codes " " ++ address_text address
operands_text (PutFullData address bytes) = codes " " ++ address_text address ++ codes " " ++ hex_text bytes
operands_text (AccessAckData bytes) = codes " " ++ hex_text bytes
operands_text AccessAck = []
