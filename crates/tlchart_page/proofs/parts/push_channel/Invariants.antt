use Rattle.std.proofs.Common.{◌≡◌, ◌++◌, string_bytes}
use Rattle.tlchart_page.specs.Parts.{waiting_below}
use Rattle.tlchart_page.proofs.parts.push_channel.Given as goal

abbrev pub invariant-loop-place : goal.invariant-loop-place
invariant-loop-place l = string_bytes l.text ≡ string_bytes l.fn.text ++ waiting_below l.bank l.client l.channel l.place
