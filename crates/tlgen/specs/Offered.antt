-- What the generator prints (this project's own).
use Rattle.std.specs.Prelude.{◌≡◌, ◌++◌, ℕ, Bool, true, false, List, Ok, codes, count_by, decimal, length}
use Rattle.tl_trace.specs.NetworkSteps.{IsTrace}
use Rattle.tl_script.specs.Script.{read_of, value_of}
use Rattle.tl_script.specs.declared.script.Script.{Script}
use Rattle.tl_text.specs.declared.answer.Answer.{Answer}
use Rattle.tl_text.specs.declared.answer.Answer.TheVariants as a
use Rattle.tl_text.specs.declared.trace.Trace.{Trace}

-- a bank refused the step
abbrev pub is_refused : Answer → Bool
is_refused (a.Refused refusal) = true
is_refused _ = false

-- how many steps were refused
abbrev pub refusals : Trace → ℕ
refusals trace = count_by is_refused trace.answers.items

-- the first line of a script for `trace`: how many steps there are, and how many of them the banks refuse
abbrev pub head_line : ℕ → ℕ → List ℕ
head_line steps refused = codes "# " ++ decimal steps ++ codes " steps, " ++ decimal refused ++ codes " of them refused\n"

-- a trace of the script's steps, over banks of its numbers and its image
abbrev pub IsPlayed : Script → Trace → Type 0
IsPlayed script trace = IsTrace script.geometry script.image.items script.steps.items trace

-- The format reads a text as a script; its steps, played over banks at reset, are as many as its first line says, and as many of them
-- are refused.
pub record IsTold (text : List ℕ) : Type 0 where
  pub script : Script
  pub trace : Trace
  pub rest : List ℕ
  pub reads : read_of text ≡ Ok (value_of script)
  pub plays : IsPlayed script trace
  pub head : text ≡ head_line (length script.steps.items) (refusals trace) ++ rest

-- the format reads a text as a script
abbrev pub IsScript : List ℕ → Type 0
IsScript text = (script : Script) × (read_of text ≡ Ok (value_of script))

-- what is printed for `trace`, and for `run`
abbrev pub Offers : Bool → List ℕ → Type 0
Offers true text = IsTold text
Offers false text = IsScript text
