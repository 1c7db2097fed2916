use Rattle.std.proofs.Common.{rules, arith}
use Rattle.tlchart_page.proofs.draw.draw_script.Goals as goal

-- the script that was read has too many steps
pub returns-then-steps-gt-MOST-clause-why : goal.returns-then-steps-gt-MOST-clause-why
returns-then-steps-gt-MOST-clause-why c =
    ((c.in_ok-script.script, c.in_ok-script.ensures, search rules), omega (arith, c.if-steps-gt-MOST.true))

-- the script that was read has few enough
pub returns-clause-drawn : goal.returns-clause-drawn
returns-clause-drawn c =
    (c.len-steps.result, (c.in_ok-script.script, c.in_ok-script.ensures, search rules), omega (arith, c.if-steps-gt-MOST.false))
