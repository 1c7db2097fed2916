use Rattle.std.proofs.Common.{rules}
use Rattle.tl_streams.proofs.reading.read_all.Goals as goal

pub returns-in-Ok : goal.returns-in-Ok
returns-in-Ok c = search rules
