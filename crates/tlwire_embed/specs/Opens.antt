-- What a judge at a client's pins in a room is when it is opened, and what a call does to it.
use Rattle.std.specs.Prelude.{◌≡◌, ◌≢◌, ℕ, ◌==◌, nat_lt, Option, Some, None, if◌then◌else◌}
use Rattle.tl_protocol.specs.declared.shape.Shape.{Shape}
use Rattle.tlcheck_embed.specs.Opens.{shape_of, shape_refusal}
use Rattle.tlwire_pins.specs.declared.view.Cores.{Cores}
use Rattle.tlwire_pins.specs.declared.view.Cores.TheVariants.{Watched, Unseen}
use Rattle.tlwire_embed.specs.Sees.{IsFresh, Sees}
use Rattle.tlwire_embed.specs.Told.{only}
use Rattle.tlwire_embed.specs.declared.bench.PinsBench.{PinsBench}
use Rattle.tlwire_embed.specs.declared.line.PinsLine.{PinsLine}
use Rattle.tlwire_embed.specs.declared.room.PinsNumbers.{PinsNumbers}
use Rattle.tlwire_embed.specs.declared.room.PinsRoom.{PinsRoom}
use Rattle.tlwire_embed.specs.declared.verdict.PinsVerdict.{PinsVerdict}

-- a judge that is closed, and why
abbrev pub closed : ℕ → PinsRoom
closed status = record { status = status; bench = None }

-- whether the core is watched
abbrev pub cores_of : ℕ → Cores
cores_of unseen = if unseen == 0 then Watched else Unseen

-- the status where there is no such client, or no such way to watch its core
abbrev pub seat_refusal : PinsNumbers → Option ℕ
seat_refusal n = if nat_lt n.client n.of.clients then (if nat_lt 1 n.cores_unseen then Some 17 else None) else Some 10

-- a refusal, or else another
abbrev pub or_else : Option ℕ → Option ℕ → Option ℕ
or_else None other = other
or_else (Some status) other = Some status

-- the status of the first number that is not lawful, if one is not
abbrev pub pins_refusal : PinsNumbers → Option ℕ
pins_refusal n = or_else (shape_refusal n.of) (seat_refusal n)

-- It is open at the pins of a client, and saw no line.
pub record IsOpened (cores : Cores) (shape : Shape) (c : ℕ) (made : PinsRoom) : Type 0 where
  pub bench : PinsBench
  pub is : made ≡ record { status = 0; bench = Some bench }
  pub fresh : IsFresh cores shape c bench

-- the first number that is not lawful closes it
abbrev pub OpensBy : Option ℕ → PinsNumbers → PinsRoom → Type 0
OpensBy (Some status) n made = made ≡ closed status
OpensBy None n made = IsOpened (cores_of n.cores_unseen) (shape_of n.of) n.client made

-- what a judge is that is opened with these numbers
abbrev pub OpensPins : PinsNumbers → PinsRoom → Type 0
OpensPins n made = OpensBy (pins_refusal n) n made

-- It stays open, and does what it does of the line.
pub record GoesOn (bench : PinsBench) (old : PinsRoom) (l : PinsLine) (new : PinsRoom) (told : PinsVerdict) : Type 0 where
  pub next : PinsBench
  pub is : new ≡ record old { bench = Some next }
  pub sees : Sees bench l next told

-- What a call does: one of a closed judge tells 18 and why it is closed; what is seen as 255 closes.
abbrev pub SeesOn : Option PinsBench → PinsRoom → PinsLine → PinsRoom → PinsVerdict → Type 0
SeesOn None old l new told = (new ≡ old) × (told ≡ record (only 18) { why = old.status })
SeesOn (Some bench) old l new told =
    (l.what ≡ 255 → (new ≡ closed 18) × (told ≡ only 0)) × (l.what ≢ 255 → GoesOn bench old l new told)

-- what a call does to a judge in a room
abbrev pub SeesRoom : PinsRoom → PinsLine → PinsRoom → PinsVerdict → Type 0
SeesRoom old l new told = SeesOn old.bench old l new told
