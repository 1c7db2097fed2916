-- One block as the plain map keeps it.
use Rattle.std.specs.Prelude.{ℕ, List, Option}
use Rattle.tl_protocol.specs.declared.home.Line.{Line}
use Rattle.tl_protocol.specs.declared.home.Accepted.{Accepted}
use Rattle.tl_protocol.specs.declared.home.Outward.{Outward}
use Rattle.tl_protocol.specs.declared.client.Client.{Client}

-- what the memory, home and the clients hold of a block, the clients in the order of their numbers
pub record PlainBlock : Type 0 where
  pub memory : List ℕ
  pub home : Option Line
  pub accepted : Option Accepted
  pub outward : Outward
  pub clients : List Client
