use Rattle.std.proofs.Common.{◌≡◌, ◌≢◌, ℕ, List, Vec, Global, Result, Ok, Err, IfErr, IfOk}
use Rattle.tl_bank_spec.specs.Share.{ShareView}
use Rattle.tl_bank_spec.specs.View.{View}
use Rattle.tl_runner_report.specs.Conclusion.{IsConclusion, IsRunReport}
use Rattle.tl_runner_report.specs.RunError.{TellsTurns}
use Rattle.tl_runner_report.specs.declared.error.RunError.{RunError}
use Rattle.tl_runner_report.specs.declared.error.RunError.TheVariants.{Stalled, Memory, NotOrdered, Shares}
use Rattle.tl_text.specs.declared.report.Report.{Report}
use Rattle.tl_script.specs.declared.script.Script.{Script}
use Rattle.tl_runner_threads.proofs.runner.concluded.Goals as goal

-- a conclusion from some banks and shares is the report of a run
of_run :
    (script : Script) (banks : List View) (shares : List (Vec ShareView Global)) (result : Result Report RunError)
    → IfOk result (IsConclusion script banks shares) → IfOk result (IsRunReport script)
of_run script banks shares (Ok report) concludes = (banks, shares, concludes)
of_run script banks shares (Err e) concludes = tt

-- what is no Shares and no NotOrdered is want of memory, so no stall
no_stall :
    (P Q : Type 0) (turns : ℕ) (result : Result Report RunError)
    → IfErr result (λ e. e ≢ Shares → e ≢ NotOrdered → (e ≡ Memory) × P × Q) → IfErr result (TellsTurns turns)
no_stall P Q turns (Ok report) memory = tt
no_stall P Q turns (Err Memory) memory = tt
no_stall P Q turns (Err NotOrdered) memory = tt
no_stall P Q turns (Err Shares) memory = tt
no_stall P Q turns (Err (Stalled made)) memory =
    let bad : Stalled made ≡ Memory = (memory (λ e. cc) (λ e. cc)).0 in cc

pub returns-clause-report : goal.returns-clause-report
returns-clause-report c = of_run c.args.script.now c.args.banks.now c.args.shares.now c.conclude.result c.conclude.ensures.ok

pub returns-clause-stalled : goal.returns-clause-stalled
returns-clause-stalled c = no_stall _ _ c.args.script.now.turns c.conclude.result c.conclude.ensures.memory
