use Rattle.std.proofs.Common.{◌≡◌, refl, Global, Option, None, Some, String, Result, Ok, Err, IfErr, IfOk, IfNone, List, ℕ}
use Rattle.std.specs.Option.{option_map}
use Rattle.tl_runner.specs.declared.asked.Job.{Job}
use Rattle.tl_streams.specs.declared.command_line.WordsError.{WordsError as JobError}
use Rattle.tl_runner.specs.Cause.{IsFaultOf}
use Rattle.tl_runner.specs.Fault.{fault_of_job}
use Rattle.tl_runner.specs.declared.fault.Fault.{Fault}
use Rattle.tl_runner.specs.declared.fault.Fault.TheVariants as its
use Rattle.tl_streams.specs.declared.fault.ProgramFault.TheVariants as program
use Rattle.tl_runner.proofs.program.answer.Goals as goal

-- where a text was made, there are a job and a file, and what fails is the writing
by_writing :
    {R : Type 0} (job : Result Job JobError) (file : Option R) (remaining : R → Option (List ℕ)) (made : Result (String Global) Fault)
    (text : String Global) → made ≡ Ok text → IfErr job (λ e. made ≡ Err (fault_of_job e))
    → IfOk job (λ _. IfNone file (made ≡ Err (its.Program program.File))) → IsFaultOf job (option_map remaining file) (its.Program program.File)
by_writing (Err e) file remaining made text is usage none = cc
by_writing (Ok asked) None remaining made text is usage none = refl
by_writing (Ok asked) (Some r) remaining made text is usage none = tt

-- what was written is the text that was made
pub returns-in-Ok-write_whole-clause-whole : goal.returns-in-Ok-write_whole-clause-whole
returns-in-Ok-write_whole-clause-whole g c =
    λ zero_. (c.as_bytes.result.now, rw c.as_bytes.ensures.value c.in-Ok.ensures.answer, c.in-Ok-write_whole.ensures.ok)

pub returns-in-Ok-clause-told : goal.returns-in-Ok-clause-told
returns-in-Ok-clause-told g c =
    λ some_. (
      its.Program program.File,
      by_writing c.args.job c.args.file g.R.Read.remaining c.text.result c.in-Ok.text c.in-Ok.is c.text.ensures.usage c.text.ensures.no_file,
      c.show.ensures.status,
      c.show.ensures.line,
    )
