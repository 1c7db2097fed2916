use Rattle.std.proofs.Common.{rules}
use Rattle.tl_map.proofs.geometry.Geometry.has_bytes.Goals as goal

pub returns-then-has : goal.returns-then-has
returns-then-has c = search rules
