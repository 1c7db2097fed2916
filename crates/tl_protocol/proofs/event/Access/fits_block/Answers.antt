use Rattle.std.proofs.Common.{rules}
use Rattle.tl_protocol.proofs.event.Access.fits_block.Goals as goal

pub returns-then-len-le-ACCESS_BYTES : goal.returns-then-len-le-ACCESS_BYTES
returns-then-len-le-ACCESS_BYTES c = search rules
