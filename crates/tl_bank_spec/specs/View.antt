-- A bank as its callers see it: what it was made of, the log of what happened since, and its open registers. All that a bank
-- holds follows from these (this project's own).
use Rattle.std.specs.Prelude.{ℕ, List, Option}
use Rattle.tl_types.specs.declared.permission.Perm.{Perm}
use Rattle.tl_map.specs.Numbers.{Numbers}
use Rattle.tl_protocol.specs.Copy.{perm_of}
use Rattle.tl_protocol.specs.Protocol.{Block}
use Rattle.tl_protocol.specs.Runs.{end_of}
use Rattle.tl_protocol.specs.declared.client.Client.{Client}
use Rattle.tl_protocol.specs.declared.event.Event.{Event}
use Rattle.tl_protocol.specs.declared.shape.Shape.{Shape}
use Rattle.tl_registers.specs.declared.register.Register.{Register}

-- a bank: its geometry, number and image, the log, how much of it is forgotten and its room, the open registers, and where blocks lie
pub record View : Type 0 where
  pub geometry : Numbers
  pub number : ℕ
  pub image : List ℕ
  pub log : List Event
  -- how many of the first events of the log no code can read any more
  pub forgotten : ℕ
  -- how many more events need no memory
  pub room : ℕ
  -- the open registers, oldest first
  pub registers : List Register
  -- in which way of its set each block lies, by block, where home holds it
  pub ways : List (Option ℕ)

-- the clients and blocks that the protocol speaks of
abbrev pub shape_of : Numbers → Shape
shape_of g = record { clients = g.clients; block_bytes = g.block_bytes; blocks = g.memory_blocks }

-- ## What the log leaves

-- of a block
abbrev pub end_at : View → ℕ → Block
end_at v block = end_of (shape_of v.geometry) v.image v.log block

-- of a client's part of a block
abbrev pub client_at : View → ℕ → ℕ → Client
client_at v client block = (end_at v block).client client

-- what a client may do with a block
abbrev pub perm_at : View → ℕ → ℕ → Perm
perm_at v client block = perm_of (client_at v client block).held
