use Rattle.std.proofs.Common.{rules}
use Rattle.tl_types.proofs.message.Downward.bytes.Goals as goal

pub returns-in-Grant : goal.returns-in-Grant
returns-in-Grant c = search rules
