-- The first lines of a record of events (this project's own format; the keys are those of a script).
use Rattle.std.specs.Prelude.{ℕ, ◌==◌, ◌&&◌, ◌||◌, nat_le, Bool, List, [], ◌∷◌, codes, bytes_eq, Option, Some, None, Result, Ok, Err, if◌then◌else◌}
use Rattle.tl_script_words.specs.Words.{words_of}
use Rattle.tl_protocol.specs.declared.shape.Shape.{Shape}
use Rattle.tlcheck_rules.specs.declared.order.ChannelOrder.{ChannelOrder}
use Rattle.tlcheck_rules.specs.declared.order.ChannelOrder.TheVariants.{Whole, EachBlock}
use Rattle.tlcheck_record.specs.Cause.{◌>>=◌}
use Rattle.tlcheck_record.specs.Words.{image_in, number_in}
use Rattle.tlcheck_record.specs.declared.cause.Cause.{Cause}
use Rattle.tlcheck_record.specs.declared.cause.Cause.TheVariants as cause
use Rattle.tlcheck_record.specs.declared.header.Head.{Head}
use Rattle.tlcheck_record.specs.declared.header.Key.{Key}
use Rattle.tlcheck_record.specs.declared.header.Key.TheVariants as key

-- the clients, a block's bytes and the blocks are in range
abbrev pub is_in_range : Shape → Bool
is_in_range shape =
    nat_le 1 shape.clients && nat_le shape.clients 64
    && ((shape.block_bytes == 8) || (shape.block_bytes == 16) || (shape.block_bytes == 32) || (shape.block_bytes == 64))
    && nat_le 1 shape.blocks && nat_le shape.blocks 65536

-- the geometry and the order, where the geometry is in range
abbrev pub in_range : Shape → ChannelOrder → Result Head Cause
in_range shape order = if is_in_range shape then Ok (record { shape = shape; order = order }) else Err cause.Range

-- `each_block`, behind the word `order`
unfoldable pub order_named : List (List ℕ) → Result ChannelOrder Cause
order_named [] = Err cause.Order
order_named (word ∷ []) = if bytes_eq word (codes "each_block") then Ok EachBlock else Err cause.Order
order_named (word ∷ next ∷ rest) = if bytes_eq word (codes "each_block") then Err cause.MoreWords else Err cause.Order

-- `order each_block`, or nothing, which asks for the order of whole channels
unfoldable pub order_in : List (List ℕ) → Result ChannelOrder Cause
order_in [] = Ok Whole
order_in (word ∷ rest) = if bytes_eq word (codes "order") then order_named rest else Err cause.MoreWords

-- the word of a key
abbrev pub key_text : Key → List ℕ
key_text key.Clients = codes "clients"
key_text key.BlockBytes = codes "block_bytes"
key_text key.MemoryBlocks = codes "memory_blocks"

-- the number at a key
unfoldable pub field_of : Key → List ℕ → List ℕ → Result ℕ Cause
field_of k word value = if bytes_eq word (key_text k) then number_in value else Err cause.Geometry

-- `memory_blocks N`, after the clients and a block's bytes, and the order
unfoldable pub blocks_in : ℕ → ℕ → List (List ℕ) → Result Head Cause
blocks_in clients size (word ∷ value ∷ rest) =
    field_of key.MemoryBlocks word value
    >>= (λ n. order_in rest >>= (λ order. in_range (record { clients = clients; block_bytes = size; blocks = n }) order))
blocks_in clients size _ = Err cause.Geometry

-- `block_bytes N memory_blocks N`, after the clients, and the order
unfoldable pub bytes_in : ℕ → List (List ℕ) → Result Head Cause
bytes_in clients (word ∷ value ∷ rest) = field_of key.BlockBytes word value >>= (λ n. blocks_in clients n rest)
bytes_in clients _ = Err cause.Geometry

-- `clients N block_bytes N memory_blocks N`, and the order
unfoldable pub head_in : List (List ℕ) → Result Head Cause
head_in (word ∷ value ∷ rest) = field_of key.Clients word value >>= (λ n. bytes_in n rest)
head_in _ = Err cause.Geometry

-- the geometry and the order that a line writes
abbrev pub head_of : List ℕ → Result Head Cause
head_of line = head_in (words_of line)

-- an image that was read
abbrev pub an_image : Result (List ℕ) Cause → Result (Option (List ℕ)) Cause
an_image image = image >>= (λ bytes. Ok (Some bytes))

-- `image HEX`, where the first word is `image`
unfoldable pub image_line : Shape → List (List ℕ) → Result (Option (List ℕ)) Cause
image_line shape [] = Ok None
image_line shape (word ∷ rest) = if bytes_eq word (codes "image") then an_image (image_in shape rest) else Ok None

-- the image that a line writes, or that it writes none
abbrev pub image_of : Shape → List ℕ → Result (Option (List ℕ)) Cause
image_of shape line = image_line shape (words_of line)
