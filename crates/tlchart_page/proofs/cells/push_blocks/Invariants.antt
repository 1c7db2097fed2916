use Rattle.std.proofs.Common.{◌≡◌, ◌++◌, take, flat_map}
use Rattle.tlchart_page.specs.Cells.{block_cells}
use Rattle.tlchart_page.proofs.cells.push_blocks.Given as goal

abbrev pub invariant-loop-block : goal.invariant-loop-block
invariant-loop-block l = l.cells.items ≡ l.fn.cells.items ++ flat_map (block_cells l.geometry) (take l.block-index l.blocks)
