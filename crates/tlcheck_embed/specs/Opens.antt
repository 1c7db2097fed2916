-- What a judge in a room is when it is opened, and what a call does to it.
use Rattle.std.specs.Prelude.{◌≡◌, ◌≢◌, ◌⊎◌, ℕ, ◌*◌, ◌<◌, ◌≤◌, ◌==◌, ◌||◌, List, length, nat_lt, Option, Some, None, if◌then◌else◌}
use Rattle.tl_protocol.specs.declared.shape.Shape.{Shape}
use Rattle.tlcheck_rules.specs.declared.order.ChannelOrder.{ChannelOrder}
use Rattle.tlcheck_rules.specs.declared.order.ChannelOrder.TheVariants.{Whole, EachBlock}
use Rattle.tlcheck_embed.specs.Sees.{IsFresh, Sees}
use Rattle.tlcheck_embed.specs.Told.{only}
use Rattle.tlcheck_embed.specs.declared.bench.Bench.{Bench}
use Rattle.tlcheck_embed.specs.declared.entry.BenchEntry.{BenchEntry}
use Rattle.tlcheck_embed.specs.declared.room.JudgeNumbers.{JudgeNumbers}
use Rattle.tlcheck_embed.specs.declared.room.JudgeRoom.{JudgeRoom}
use Rattle.tlcheck_embed.specs.declared.verdict.Verdict.{Verdict}

-- a judge that is closed, and why
abbrev pub closed : ℕ → JudgeRoom
closed status = record { status = status; bench = None }

-- the shape with these numbers
abbrev pub shape_of : JudgeNumbers → Shape
shape_of n = record { clients = n.clients; block_bytes = n.block_bytes; blocks = n.memory_blocks }

-- the status of the first number that is not lawful, if one is not
abbrev pub shape_refusal : JudgeNumbers → Option ℕ
shape_refusal n =
    if (n.clients == 0) || nat_lt 64 n.clients then Some 20
    else if (n.block_bytes == 8) || ((n.block_bytes == 16) || ((n.block_bytes == 32) || (n.block_bytes == 64)))
    then (if (n.memory_blocks == 0) || nat_lt 65536 n.memory_blocks then Some 27 else None)
    else Some 22

-- the status of the shape, or of an order that is neither 0 nor 1
abbrev pub refusal_behind : Option ℕ → ℕ → Option ℕ
refusal_behind (Some status) order = Some status
refusal_behind None order = if nat_lt 1 order then Some 17 else None

-- the order of a channel that is asked for: 0 of the whole channel, 1 of each block alone
abbrev pub order_of : JudgeNumbers → ChannelOrder
order_of n = if n.order == 0 then Whole else EachBlock

-- the status of the first number that is not lawful, if one is not: the shape's, then the order's
abbrev pub numbers_refusal : JudgeNumbers → Option ℕ
numbers_refusal n = refusal_behind (shape_refusal n) n.order

-- It is at reset over the image, in that order.
pub record IsOpened (order : ChannelOrder) (shape : Shape) (image : List ℕ) (made : JudgeRoom) : Type 0 where
  pub bench : Bench
  pub is : made ≡ record { status = 0; bench = Some bench }
  pub fresh : IsFresh order shape image bench

-- An image that is longer than the memory closes it with 10; over one that fits it is at reset, or there was no memory.
pub record OpensOver (n : JudgeNumbers) (image : List ℕ) (made : JudgeRoom) : Type 0 where
  pub long : n.block_bytes * n.memory_blocks < length image → made ≡ closed 10
  pub fits : length image ≤ n.block_bytes * n.memory_blocks → IsOpened (order_of n) (shape_of n) image made ⊎ (made ≡ closed 14)

-- the first number that is not lawful closes it
abbrev pub OpensBy : Option ℕ → JudgeNumbers → List ℕ → JudgeRoom → Type 0
OpensBy (Some status) n image made = made ≡ closed status
OpensBy None n image made = OpensOver n image made

-- what a judge is that is opened with these numbers and this image
abbrev pub OpensJudge : JudgeNumbers → List ℕ → JudgeRoom → Type 0
OpensJudge n image made = OpensBy (numbers_refusal n) n image made

-- It stays open, and does what it does of the entry.
pub record GoesOn (bench : Bench) (old : JudgeRoom) (e : BenchEntry) (new : JudgeRoom) (told : Verdict) : Type 0 where
  pub next : Bench
  pub is : new ≡ record old { bench = Some next }
  pub sees : Sees bench e next told

-- What a call does: one of a closed judge tells 18 and why it is closed; the event 255 closes.
abbrev pub SeesOn : Option Bench → JudgeRoom → BenchEntry → JudgeRoom → Verdict → Type 0
SeesOn None old e new told = (new ≡ old) × (told ≡ record (only 18) { why = old.status })
SeesOn (Some bench) old e new told =
    (e.event ≡ 255 → (new ≡ closed 18) × (told ≡ only 0)) × (e.event ≢ 255 → GoesOn bench old e new told)

-- what a call does to a judge in a room
abbrev pub SeesRoom : JudgeRoom → BenchEntry → JudgeRoom → Verdict → Type 0
SeesRoom old e new told = SeesOn old.bench old e new told
