use Rattle.std.proofs.Common.{◌≡◌, ◌++◌, string_bytes}
use Rattle.tlchart_page.specs.Parts.{ways_below}
use Rattle.tlchart_page.proofs.parts.push_ways.Given as goal

abbrev pub invariant-loop-way : goal.invariant-loop-way
invariant-loop-way l = string_bytes l.text ≡ string_bytes l.fn.text ++ ways_below l.bank l.set l.way
