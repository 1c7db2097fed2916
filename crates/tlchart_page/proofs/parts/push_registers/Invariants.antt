use Rattle.std.proofs.Common.{◌≡◌, ◌++◌, take, flat_map, string_bytes}
use Rattle.tlchart_page.specs.Parts.{register_text}
use Rattle.tlchart_page.proofs.parts.push_registers.Given as goal

abbrev pub invariant-loop-register : goal.invariant-loop-register
invariant-loop-register l =
    string_bytes l.text ≡ string_bytes l.fn.text ++ flat_map (register_text l.bank) (take l.register-index l.register-items)
