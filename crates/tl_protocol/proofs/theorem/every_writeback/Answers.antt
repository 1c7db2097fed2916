use Rattle.tl_protocol.proofs.Written.{every_block_is_written}
use Rattle.tl_protocol.proofs.theorem.every_writeback.Goals as goal

pub returns : goal.returns
returns c = record { written = every_block_is_written }
