use Rattle.std.proofs.Common.{rules}
use Rattle.tl_map.proofs.geometry.Geometry.block_at.Goals as goal

pub returns : goal.returns
returns c = search rules
