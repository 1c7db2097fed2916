use Rattle.std.proofs.Common.{◌≡◌, length}
use Rattle.tl_script_words.specs.Words.{texts}
use Rattle.tlwire_record.specs.Fields.{fields_in}
use Rattle.tlwire_record.proofs.fields.add_words.Given as goal

-- the fields so far, and those of the rest
abbrev pub invariant-loop-rest : goal.invariant-loop-rest
invariant-loop-rest l = fields_in l.initial.fields (texts l.fn.words) ≡ fields_in l.fields (texts l.rest)

abbrev pub decreases-loop-rest : goal.decreases-loop-rest
decreases-loop-rest l = length l.rest
