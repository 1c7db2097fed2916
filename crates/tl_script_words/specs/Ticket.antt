-- The words of messages: channels, tickets, and what a client gains or gives up (this project's own format).
use Rattle.std.specs.Prelude.{ℕ, ◌==◌, if◌then◌else◌, List, [], ◌∷◌, codes, bytes_eq, Option, Some, None}
use Rattle.std.specs.List.{slice_split}
use Rattle.tl_types.specs.declared.channel.Channel.{Channel}
use Rattle.tl_types.specs.declared.channel.Channel.TheVariants as channel
use Rattle.tl_types.specs.declared.permission.Grow.{Grow}
use Rattle.tl_types.specs.declared.permission.Grow.TheVariants.{NtoB, NtoT, BtoT}
use Rattle.tl_types.specs.declared.permission.Prune.{Prune}
use Rattle.tl_types.specs.declared.permission.Prune.TheVariants.{TtoB, TtoN, BtoN}
use Rattle.tl_types.specs.declared.ticket.Ticket.{Ticket}
use Rattle.tl_script_words.specs.Reads.{◌>>=◌}
use Rattle.tl_script_words.specs.Words.{number_of}

-- what stands between the dots
abbrev pub fields_of : List ℕ → List (List ℕ)
fields_of text = slice_split (λ b. b == 46) text

-- a channel's letter
unfoldable pub channel_of : List ℕ → Option Channel
channel_of text =
    if bytes_eq text (codes "A") then Some channel.A
    else if bytes_eq text (codes "B") then Some channel.B
    else if bytes_eq text (codes "C") then Some channel.C
    else if bytes_eq text (codes "D") then Some channel.D
    else if bytes_eq text (codes "E") then Some channel.E
    else None

-- GROW
unfoldable pub grow_of : List ℕ → Option Grow
grow_of text =
    if bytes_eq text (codes "NtoB") then Some NtoB
    else if bytes_eq text (codes "NtoT") then Some NtoT
    else if bytes_eq text (codes "BtoT") then Some BtoT
    else None

-- PRUNE
unfoldable pub prune_of : List ℕ → Option Prune
prune_of text =
    if bytes_eq text (codes "TtoB") then Some TtoB
    else if bytes_eq text (codes "TtoN") then Some TtoN
    else if bytes_eq text (codes "BtoN") then Some BtoN
    else None

-- what the four fields of a ticket name
unfoldable pub ticket_in : List (List ℕ) → Option Ticket
ticket_in (bank ∷ client ∷ letter ∷ serial ∷ []) = do
  b ← number_of bank
  c ← number_of client
  l ← channel_of letter
  s ← number_of serial
  Some (record { bank = b; client = c; channel = l; serial = s })
ticket_in _ = None

-- TICKET: `BANK.CLIENT.CHANNEL.SERIAL`
abbrev pub ticket_of : List ℕ → Option Ticket
ticket_of text = ticket_in (fields_of text)
