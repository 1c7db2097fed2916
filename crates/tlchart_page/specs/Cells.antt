-- Which parts of the banks a page shows (this project's own).
use Rattle.std.specs.Prelude.{◌≡◌, ℕ, zero, suc, List, [], ◌∷◌, ◌++◌}
use Rattle.std.specs.List.{flat_map}
use Rattle.tl_types.specs.declared.channel.Channel.TheVariants.{A, B, C, D, E}
use Rattle.tl_map.specs.Numbers.{Numbers}
use Rattle.tl_map.specs.Places.{bank_of}
use Rattle.tlchart_page.specs.declared.parts.Part.{Part}
use Rattle.tlchart_page.specs.declared.parts.Part.TheVariants as part
use Rattle.tlchart_page.specs.declared.parts.Cell.{Cell}

-- a cell of a bank
abbrev pub cell_of : ℕ → Part → Cell
cell_of bank p = record { bank = bank; part = p }

-- the first clients' parts of a block
abbrev pub clients_below : ℕ → ℕ → ℕ → List Cell
clients_below bank block zero = []
clients_below bank block (suc n) = clients_below bank block n ++ cell_of bank (part.Client n block) ∷ []

-- the cells of a block, of the bank where it lies
abbrev pub block_cells : Numbers → ℕ → List Cell
block_cells g block =
    cell_of (bank_of g block) (part.Home block) ∷ cell_of (bank_of g block) (part.Memory block)
    ∷ clients_below (bank_of g block) block g.clients

-- the five channels of a client
abbrev pub channel_cells : ℕ → ℕ → List Cell
channel_cells bank client =
    cell_of bank (part.Channel client A) ∷ cell_of bank (part.Channel client B) ∷ cell_of bank (part.Channel client C)
    ∷ cell_of bank (part.Channel client D) ∷ cell_of bank (part.Channel client E) ∷ []

-- those of the first clients
abbrev pub channels_below : ℕ → ℕ → List Cell
channels_below bank zero = []
channels_below bank (suc n) = channels_below bank n ++ channel_cells bank n

-- the channels and the registers of the first banks
abbrev pub banks_below : Numbers → ℕ → List Cell
banks_below g zero = []
banks_below g (suc n) = banks_below g n ++ (channels_below n g.clients ++ cell_of n part.Registers ∷ [])

-- The cells of some blocks: home's, the memory's and each client's of each block, those of some sets, and each channel and the
-- registers of each bank.
pub record HasCells (g : Numbers) (blocks : List ℕ) (cells : List Cell) : Type 0 where
  pub sets : List Cell
  pub is : cells ≡ flat_map (block_cells g) blocks ++ sets ++ banks_below g g.banks
