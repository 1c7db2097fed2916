-- The layers of a bank, each as its own contracts see it. No public clause cites this module.
use Rattle.std.specs.Prelude.{ℕ}
use Rattle.tl_links.specs.Table.{LinkTable}
use Rattle.tl_copies.specs.Copies.{Tables}
use Rattle.tl_bank_home.specs.Homes.{HomeState}

-- the links, the clients' tables of copies, home with the memory, and two numbers that the bank keeps
pub record Layers : Type 0 where
  pub links : LinkTable
  pub copies : Tables
  pub home : HomeState
  -- how many registers there may be
  pub limit : ℕ
  -- the stamp of the last access
  pub clock : ℕ
