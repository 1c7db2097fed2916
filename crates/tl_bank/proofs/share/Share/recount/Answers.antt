use Rattle.std.proofs.Common.{rules}
use Rattle.tl_bank.proofs.share.Share.recount.Goals as goal

pub returns-in_default-None : goal.returns-in_default-None
returns-in_default-None c = search rules
