use Rattle.std.proofs.Common.{◌≡◌, ◌∙◌, refl, ap, sym, subst, ℕ, Bool, true}
use Rattle.std.proofs.Common.{false, Global, List, Option, Some, None, Result, String, Ok, Err, IfErr, IfOk, IfSome}
use Rattle.std.proofs.lemmas.Result.{err_from_is_err_and}
use Rattle.tl_script.specs.Script.{read_of, ScriptValue, value_of}
use Rattle.tl_runner.specs.declared.asked.Job.{Job}
use Rattle.tl_streams.specs.declared.command_line.WordsError.{WordsError as JobError}
use Rattle.tl_runner.specs.Answer.{IsAnswerTo}
use Rattle.std.specs.Option.{option_map}
use Rattle.tl_runner_report.specs.RunError.{TellsTurns}
use Rattle.tl_runner_report.specs.declared.error.RunError.{RunError}
use Rattle.tl_runner_report.specs.declared.error.RunError.TheVariants as run
use Rattle.tl_streams.specs.declared.reading.ReadError.{ReadError}
use Rattle.tl_streams.specs.declared.reading.ReadError.TheVariants as read
use Rattle.tl_script.specs.Each.{Fails}
use Rattle.tl_script.specs.declared.script.Script.{Script}
use Rattle.tl_runner.specs.Cause.{EndsRun, IsFaultOf, LeadsTo}
use Rattle.tl_runner.specs.Fault.{fault_of_read}
use Rattle.tl_runner.specs.declared.fault.Fault.{Fault}
use Rattle.tl_runner.proofs.program.text.Goals as goal

-- what was read of the file is what its known bytes say
known_read :
    (known : Option (List ℕ)) (bytes : List ℕ) (script : ScriptValue) → IfSome known (λ all. bytes ≡ all)
    → read_of bytes ≡ Ok script → IfSome known (λ all. read_of all ≡ Ok script)
known_read None bytes script same read = tt
known_read (Some all) bytes script same read = ap read_of (sym same) ∙ read

-- the job was asked for by `trace` or by `run`
for-job :
    (job : Result Job JobError) (asked : Job) (known : Option (List ℕ)) (text : List ℕ) (traces : Bool) → job ≡ Ok asked
    → asked.traces ≡ traces → IsAnswerTo traces known text → IfOk job (λ a. IsAnswerTo a.traces known text)
for-job job asked known text traces is by h =
    subst (λ (j : Result Job JobError). IfOk j (λ a. IsAnswerTo a.traces known text)) (sym is)
    (subst (λ (b : Bool). IsAnswerTo b known text) (sym by) h)

pub returns-clause-answer : goal.returns-clause-answer
returns-clause-answer g c =
    let known : IfSome (g.R.Read.remaining c.in_ok-reader.reader) (λ all. c.deref.result.now ≡ all) =
    rw c.deref.ensures.value c.in_ok-bytes.ensures.bytes in
    let read : read_of c.deref.result.now ≡ Ok (value_of c.in_ok-script.script) = c.in_ok-script.ensures in
    for-job c.args.job c.in_ok-job.job _ _ false c.in_ok-job.was c.if-job.false (
      c.in_ok-script.script,
      rw c.in_ok-reader.ensures.ok_part (known_read _ c.deref.result.now (value_of c.in_ok-script.script) known read),
      (c.in_ok-report.report, c.in_ok-report.ensures.report, c.in_ok-text.ensures),
    )

pub returns-then-job-clause-answer : goal.returns-then-job-clause-answer
returns-then-job-clause-answer g c =
    let known : IfSome (g.R.Read.remaining c.in_ok-reader.reader) (λ all. c.deref.result.now ≡ all) =
    rw c.deref.ensures.value c.in_ok-bytes.ensures.bytes in
    let read : read_of c.deref.result.now ≡ Ok (value_of c.in_ok-script.script) = c.in_ok-script.ensures in
    for-job c.args.job c.in_ok-job.job _ _ true c.in_ok-job.was c.if-job.true (
      c.in_ok-script.script,
      rw c.in_ok-reader.ensures.ok_part (known_read _ c.deref.result.now (value_of c.in_ok-script.script) known read),
      c.in_ok-trace.ensures.text,
    )

-- an error that the file leads to is the fault of a job
caused :
    (job : Result Job JobError) (asked : Job) (file : Option (Option (List ℕ))) (known : Option (List ℕ)) (traces : Bool)
    (result : Result (String Global) Fault) (fault : Fault) → job ≡ Ok asked → asked.traces ≡ traces → file ≡ Some known
    → result ≡ Err fault → LeadsTo traces known fault → IfErr result (λ f. IsFaultOf job file f)
caused job asked file known traces result fault is by there err leads =
    subst (λ (r : Result (String Global) Fault). IfErr r (λ f. IsFaultOf job file f)) (sym err)
    (subst (λ (j : Result Job JobError). IsFaultOf j file fault) (sym is)
    (subst (λ (f : Option (Option (List ℕ))). IsFaultOf (Ok asked) f fault) (sym there)
    (subst (λ (b : Bool). LeadsTo b known fault) (sym by) leads)))

-- what holds of the bytes that were read holds of the file's, where those are known
at_known :
    (P : List ℕ → Type 0) (known : Option (List ℕ)) (bytes : List ℕ) → IfSome known (λ all. bytes ≡ all) → P bytes
    → IfSome known P
at_known P None bytes same h = tt
at_known P (Some all) bytes same h = subst P same h

-- a read ends by the file's fault, or for want of memory
by_reading : (traces : Bool) (known : Option (List ℕ)) (error : ReadError) → LeadsTo traces known (fault_of_read error)
by_reading traces known read.Memory = tt
by_reading traces known read.File = tt

-- a run's error ends it
by_run : (script : Script) (error : RunError) → TellsTurns script.turns error → EndsRun false script error
by_run script run.Memory h = tt
by_run script (run.Stalled turns) h = (refl, h)
by_run script run.NotOrdered h = (refl, h)
by_run script run.Shares h = (refl, h)

pub returns-in_err-bytes-clause-fault : goal.returns-in_err-bytes-clause-fault
returns-in_err-bytes-clause-fault g c =
    let (fault, was, is) = err_from_is_err_and c.from_residual-in_err-bytes.result c.from_residual-in_err-bytes.ensures.1 in
    caused c.args.job c.in_ok-job.job _ _ _ _ _ c.in_ok-job.was refl (ap (option_map g.R.Read.remaining) c.in_ok-reader.ensures.ok_part)
    (was ∙ ap (λ (f : Fault). Err f) is) (by_reading c.in_ok-job.job.traces (g.R.Read.remaining c.in_ok-reader.reader) c.in_err-bytes.field-0.0)

pub returns-in_err-script-clause-fault : goal.returns-in_err-script-clause-fault
returns-in_err-script-clause-fault g c =
    let (fault, was, is) = err_from_is_err_and c.from_residual-in_err-script.result c.from_residual-in_err-script.ensures.1 in
    let known : IfSome (g.R.Read.remaining c.in_ok-reader.reader) (λ all. c.deref.result.now ≡ all) =
    rw c.deref.ensures.value c.in_ok-bytes.ensures.bytes in
    caused c.args.job c.in_ok-job.job _ _ _ _ _ c.in_ok-job.was refl (ap (option_map g.R.Read.remaining) c.in_ok-reader.ensures.ok_part)
    (was ∙ ap (λ (f : Fault). Err f) is)
    (at_known (λ all. Fails c.in_err-script.field-0.0 (read_of all)) _ _ known c.in_err-script.ensures)

pub returns-in_err-trace-clause-fault : goal.returns-in_err-trace-clause-fault
returns-in_err-trace-clause-fault g c =
    let (fault, was, is) = err_from_is_err_and c.from_residual-in_err-trace.result c.from_residual-in_err-trace.ensures.1 in
    let known : IfSome (g.R.Read.remaining c.in_ok-reader.reader) (λ all. c.deref.result.now ≡ all) =
    rw c.deref.ensures.value c.in_ok-bytes.ensures.bytes in
    let read : read_of c.deref.result.now ≡ Ok (value_of c.in_ok-script.script) = c.in_ok-script.ensures in
    let ends : EndsRun true c.in_ok-script.script c.in_err-trace.field-0.0 = rw c.in_err-trace.ensures.memory tt in
    caused c.args.job c.in_ok-job.job _ _ true _ _ c.in_ok-job.was c.if-job.true (ap (option_map g.R.Read.remaining) c.in_ok-reader.ensures.ok_part)
    (was ∙ ap (λ (f : Fault). Err f) is)
    (c.in_ok-script.script, known_read _ c.deref.result.now (value_of c.in_ok-script.script) known read, ends)

pub returns-in_err-report-clause-fault : goal.returns-in_err-report-clause-fault
returns-in_err-report-clause-fault g c =
    let (fault, was, is) = err_from_is_err_and c.from_residual-in_err-report.result c.from_residual-in_err-report.ensures.1 in
    let known : IfSome (g.R.Read.remaining c.in_ok-reader.reader) (λ all. c.deref.result.now ≡ all) =
    rw c.deref.ensures.value c.in_ok-bytes.ensures.bytes in
    let read : read_of c.deref.result.now ≡ Ok (value_of c.in_ok-script.script) = c.in_ok-script.ensures in
    caused c.args.job c.in_ok-job.job _ _ false _ _ c.in_ok-job.was c.if-job.false (ap (option_map g.R.Read.remaining) c.in_ok-reader.ensures.ok_part)
    (was ∙ ap (λ (f : Fault). Err f) is) (
      c.in_ok-script.script,
      known_read _ c.deref.result.now (value_of c.in_ok-script.script) known read,
      by_run c.in_ok-script.script _ c.in_err-report.ensures.stalled,
    )
