use Rattle.tl_protocol.proofs.Moves.{every_block_moves}
use Rattle.tl_protocol.proofs.theorem.every_move.Goals as goal

pub returns : goal.returns
returns c = record { moves = every_block_moves }
