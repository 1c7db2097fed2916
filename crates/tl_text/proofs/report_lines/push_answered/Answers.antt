use Rattle.std.proofs.Common.{append_assoc}
use Rattle.tl_text.proofs.report_lines.push_answered.Goals as goal

pub returns-in-Load : goal.returns-in-Load
returns-in-Load c = let wrote = simp append_assoc at c.push_access.ensures in rw (c.in-Load.is, ← c.as_slice.ensures.value) wrote

pub returns-in-Store : goal.returns-in-Store
returns-in-Store c = let wrote = simp append_assoc at c.push_access-in-Store.ensures in rw (c.in-Store.is, ← c.as_slice-in-Store.ensures.value) wrote

pub returns-in_ok-push_str-in-Drop : goal.returns-in_ok-push_str-in-Drop
returns-in_ok-push_str-in-Drop c =
    let began = c.in_ok-push_str-in-Drop.ensures.bytes in
    let wrote = simp (began, append_assoc) at c.push_address.ensures in
    rw c.in-Drop.is wrote
