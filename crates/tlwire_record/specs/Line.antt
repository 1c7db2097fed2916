-- A line of a message, of a load or of a store (this project's own format; channels and opcodes are TileLink's).
use Rattle.std.specs.Prelude.{ℕ, ◌==◌, List, [], ◌∷◌, drop, codes, bytes_eq, Option, None, Result, Ok, Err, ok_or, if◌then◌else◌}
use Rattle.std.specs.List.{starts_with}
use Rattle.tl_types.specs.declared.channel.Channel.{Channel}
use Rattle.tl_types.specs.declared.channel.Channel.TheVariants as channel
use Rattle.tl_script_words.specs.Words.{number_of}
use Rattle.tlcheck_record.specs.Cause.{◌>>=◌}
use Rattle.tlcheck_record.specs.Words.{access_bytes_in, number_in}
use Rattle.tlwire_record.specs.Address.{wide_address_in}
use Rattle.tlwire_record.specs.Fields.{fields_in, no_fields}
use Rattle.tlcheck_record.specs.declared.cause.Cause.{Cause}
use Rattle.tlcheck_record.specs.declared.cause.Cause.TheVariants as cause
use Rattle.tlwire_record.specs.declared.line.Line.{Line}
use Rattle.tlwire_record.specs.declared.line.Link.{Link}
use Rattle.tlwire_record.specs.declared.line.Link.TheVariants.{Client, Memory}
use Rattle.tlwire_record.specs.declared.line.Said.{Said}
use Rattle.tlwire_record.specs.declared.line.Said.TheVariants as said

-- `c` and a client's number
abbrev pub client_of_word : List ℕ → Option ℕ
client_of_word text = if starts_with (λ a b. a == b) text (codes "c") then number_of (drop 1 text) else None

-- a link: `m`, or a client's
abbrev pub link_of : List ℕ → Result Link Cause
link_of text =
    if bytes_eq text (codes "m") then Ok Memory
    else ok_or (client_of_word text) cause.Link >>= (λ c. Ok (Client c))

-- a channel's letter
unfoldable pub channel_of_word : List ℕ → Result Channel Cause
channel_of_word text =
    if bytes_eq text (codes "A") then Ok channel.A
    else if bytes_eq text (codes "B") then Ok channel.B
    else if bytes_eq text (codes "C") then Ok channel.C
    else if bytes_eq text (codes "D") then Ok channel.D
    else if bytes_eq text (codes "E") then Ok channel.E
    else Err cause.Channel

-- `ADDR HEX`: 1 to 8 bytes
unfoldable pub access_in : List (List ℕ) → Result (ℕ × List ℕ) Cause
access_in (place ∷ bytes ∷ []) = wide_address_in place >>= (λ a. access_bytes_in bytes >>= (λ bs. Ok (a, bs)))
access_in _ = Err cause.Words

-- `OPCODE FIELD..`
unfoldable pub message_in : Channel → List (List ℕ) → Result Said Cause
message_in k [] = Err cause.Words
message_in k (opcode ∷ rest) = number_in opcode >>= (λ n. fields_in no_fields rest >>= (λ fields. Ok (said.Message k n fields)))

-- what stands behind a link
unfoldable pub said_in : List ℕ → List (List ℕ) → Result Said Cause
said_in verb words =
    if bytes_eq verb (codes "load") then access_in words >>= (λ a. Ok (said.Load a.0 a.1))
    else if bytes_eq verb (codes "store") then access_in words >>= (λ a. Ok (said.Store a.0 a.1))
    else channel_of_word verb >>= (λ k. message_in k words)

-- `CYCLE LINK` and what is said of the link
unfoldable pub line_in : List (List ℕ) → Result Line Cause
line_in (cycle ∷ link ∷ verb ∷ rest) =
    number_in cycle >>= (λ t. link_of link >>= (λ l. said_in verb rest >>= (λ s. Ok (record { cycle = t; link = l; said = s }))))
line_in _ = Err cause.Words
