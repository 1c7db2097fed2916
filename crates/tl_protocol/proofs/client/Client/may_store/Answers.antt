use Rattle.std.proofs.Common.{rules}
use Rattle.tl_protocol.proofs.client.Client.may_store.Goals as goal

pub returns-then-fits_block : goal.returns-then-fits_block
returns-then-fits_block c = search rules
