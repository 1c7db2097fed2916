use Rattle.std.proofs.Common.{rules}
use Rattle.tl_embed.proofs.views.tell_copy.Goals as goal

-- no copy: nothing is told but 0
pub returns-in-Some-Absent : goal.returns-in-Some-Absent
returns-in-Some-Absent c = search rules

-- a copy at Tip is told as it is: clean or dirty, with its bytes
pub returns-in-Some-Writable : goal.returns-in-Some-Writable
returns-in-Some-Writable c = search rules
