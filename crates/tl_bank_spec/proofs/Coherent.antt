-- Every bank whose log is a run is coherent.
use Rattle.tl_protocol.specs.Runs.{IsRun}
use Rattle.tl_protocol.proofs.Coherent.{every_run_keeps_copies, every_run_reads_last}
use Rattle.tl_bank_spec.specs.Coherent.{IsCoherent}
use Rattle.tl_bank_spec.specs.View.{View, shape_of}

-- a bank whose log is a run is coherent
pub run-coherent : (v : View) → IsRun (shape_of v.geometry) v.image v.log → IsCoherent v
run-coherent v run =
    let read = every_run_reads_last (shape_of v.geometry) v.image v.log run in
    record {
      run = run;
      kept = every_run_keeps_copies (shape_of v.geometry) v.image v.log run;
      newest = read.0;
      loads = read.1;
    }
