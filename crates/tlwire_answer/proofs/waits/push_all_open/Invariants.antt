use Rattle.std.proofs.Common.{◌≡◌, ◌++◌, take}
use Rattle.std.specs.List.{flat_map}
use Rattle.tl_script_words.specs.Words.{texts}
use Rattle.tlwire_answer.specs.Waits.{open_text}
use Rattle.tlwire_answer.proofs.waits.push_all_open.Given as goal

-- those so far behind what stood there
abbrev pub invariant-loop-opened : goal.invariant-loop-opened
invariant-loop-opened l =
    l.text.items ≡ l.initial.text.items ++ flat_map (open_text (texts l.fn.lines) l.fn.messages) (take l.opened-index l.exchanges)
