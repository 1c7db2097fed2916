use Rattle.std.proofs.Common.{◌≡◌, drop}
use Rattle.tl_script_words.specs.Words.{texts}
use Rattle.tlwire_record.specs.Reading.{after_lines}
use Rattle.tlwire_record.specs.declared.stage.Stage.TheVariants.{Fresh}
use Rattle.tlwire_record.proofs.record.take_lines.Given as goal

abbrev pub invariant-loop-line : goal.invariant-loop-line
invariant-loop-line l = record {
  counted : l.number ≡ l.line-index;
  leads : after_lines 0 Fresh (texts l.lines) ≡ after_lines l.line-index l.stage (drop l.line-index (texts l.lines));
}
