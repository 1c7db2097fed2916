use Rattle.std.proofs.Common.{◌≡◌, false}
use Rattle.tl_links.specs.Table.{some_has, waiting_below}
use Rattle.tl_links.proofs.links.Links.some_has.Given as goal

abbrev pub invariant-loop-number : goal.invariant-loop-number
invariant-loop-number l =
    (some_has l.self l.channel l.block l.wanted l.number ≡ false) × (l.passed ≡ waiting_below l.self l.channel l.number)
