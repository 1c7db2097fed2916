use Rattle.std.proofs.Common.{◌≡◌, Err, None, sym, rules, arith}
use Rattle.tlchart_record.specs.Window.{fault_of}
use Rattle.tlchart_record.proofs.Windows.{empty_text, never_none, no_opening, shows-none, waits_none, waits_some, all-somewhere}
use Rattle.tlchart_record.proofs.window.window_of.Goals as goal
use Rattle.tlchart_record.proofs.window.window_of.Goals.{else-count-eq0-via-then-count-eq0+else-waits, else-count-eq0-via-else-count-eq0}

-- what stands before the entries cannot be read
pub returns-in_err-opening-clause-fault : goal.returns-in_err-opening-clause-fault
returns-in_err-opening-clause-fault c =
    let is : c.from_residual.result ≡ Err (fault_of c.in_err-opening.field-0.0) = search rules in
    rw is (no_opening c.args.bytes.now c.args.count c.in_err-opening.field-0.0 (c.in_err-opening.ensures {u = tt}).opens)

-- there is none
pub returns-in_default-clause-fault : goal.returns-in_default-clause-fault
returns-in_default-clause-fault c = λ e.
    let none = rw c.in_default.is at (c.in_ok-opening.ensures {u = tt}).opens in
    empty_text c.args.bytes.now c.args.count none.0 none.1 none.2

-- the first entry stands behind the geometry
pub returns-then-waits-clause-fault : goal.returns-then-waits-clause-fault
returns-then-waits-clause-fault c = λ e has.
    let among = rw c.in-Some.is at (c.in_ok-opening.ensures {u = tt}).opens in
    let waits = waits_some c.in-Some.opening.entries.first (sym (c.if-waits.ensures {u = tt})) in
    let zero : c.args.count ≡ 0 = omega (arith, c.if-count-eq0.true) in
    never_none c.args.bytes.now _ c.in-Some.opening.entries.number c.in-Some.opening.entries.first waits.0 c.in-Some.opening.head c.in-Some.opening.image.items waits.1 among
    (rw zero at has)

-- the window
pub returns-clause-window : goal.returns-clause-window
returns-clause-window c =
    let among = rw c.in-Some.is at (c.in_ok-opening.ensures {u = tt}).opens in
    let none : c.args.count ≡ 0 → c.in-Some.opening.entries.first ≡ None = λ e.
    elim c.else-count-eq0.branch [
      | else-count-eq0-via-then-count-eq0+else-waits w ↦ waits_none c.in-Some.opening.entries.first (sym (w.if-waits.ensures {u = tt}))
      | else-count-eq0-via-else-count-eq0 w ↦ absurd (omega (arith, e, w.if-count-eq0.false))
    ] in
    let opened = rw c.deref.ensures.value at (c.in_ok-window.ensures {u = tt}) in
    c.take_entries.ensures.window c.args.bytes.now c.in-Some.opening.head c.in-Some.opening.image.items among none
    (shows-none c.args.bytes.now c.args.before c.in-Some.opening.head c.in-Some.opening.image.items c.in_ok-window.window opened.0 opened.1)

pub returns-clause-somewhere : goal.returns-clause-somewhere
returns-clause-somewhere c = all-somewhere c.args.bytes.now c.args.before c.args.count c.take_entries.result (returns-clause-window c)
