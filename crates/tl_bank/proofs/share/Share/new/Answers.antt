use Rattle.std.proofs.Common.{rules}
use Rattle.tl_bank.proofs.share.Share.new.Goals as goal

pub returns : goal.returns
returns c = search rules
