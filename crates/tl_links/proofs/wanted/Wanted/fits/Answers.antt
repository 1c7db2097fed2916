use Rattle.std.proofs.Common.{rules}
use Rattle.tl_links.proofs.wanted.Wanted.fits.Goals as goal

pub returns-in-Upward : goal.returns-in-Upward
returns-in-Upward c = search rules
