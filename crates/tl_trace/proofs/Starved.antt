-- No case of a step's call is want of memory: where that was the answer, the log had no room.
use Rattle.std.proofs.Common.{◌≡◌, ℕ, Bool, true, false, ◌==◌, not, List, [], ◌∷◌, Some, if◌then◌else◌, refl, sym, ap, ◌∙◌}
use Rattle.tl_script_words.specs.declared.step.TicketCall.TheVariants.{AnswerProbe, TakeGrant, TakeReleaseAck, Accept, TakeC, TakeGrantAck}
use Rattle.tl_script_words.specs.declared.step.BlockCall.TheVariants.{Advance, Evict, ServeMemory, TakeMemory}
use Rattle.tl_script_words.specs.declared.step.Step.{Step}
use Rattle.tl_script_words.specs.declared.step.Step.TheVariants as step
use Rattle.tl_bank_spec.specs.Refusal.{Case, IsRefused, first_of, refusal_number}
use Rattle.tl_bank_spec.specs.declared.refusal.Refusal.{Refusal}
use Rattle.tl_bank_spec.specs.declared.refusal.Refusal.TheVariants.{Memory}
use Rattle.tl_trace.specs.Steps.{Scene, cases_of}

-- another refusal than want of memory
abbrev other : Refusal → Bool
other refusal = not (refusal_number refusal == 14)

-- each of these cases is of another refusal
abbrev all_other : List Case → Bool
all_other [] = true
all_other (x ∷ rest) = if other x.1 then all_other rest else false

-- one case more
one-more : (holds o : Bool) (refusal : Refusal) (rest : List Case) (room : ℕ) → o ≡ other refusal
    → (if o then all_other rest else false) ≡ true → (all_other rest ≡ true → IsRefused (first_of rest) room Memory → room ≡ 0)
    → IsRefused (if holds then Some refusal else first_of rest) room Memory → room ≡ 0
one-more true true refusal rest room is all next refused = let e : true ≡ false = is ∙ ap other (sym refused) in cc
one-more false true refusal rest room is all next refused = next all refused
one-more holds false refusal rest room is all next refused = cc

-- where memory was refused and no case is of that, there was no room
no-room : (cases : List Case) (room : ℕ) → all_other cases ≡ true → IsRefused (first_of cases) room Memory → room ≡ 0
no-room [] room all refused = refused.1
no-room (x ∷ rest) room all refused = one-more x.0 (other x.1) x.1 rest room refl all (no-room rest room) refused

-- no case of a step is of that
step-other : (s : Scene) (asked : Step) → all_other (cases_of s asked) ≡ true
step-other s (step.Load client address len) = refl
step-other s (step.Store client address bytes) = refl
step-other s (step.Acquire client block grow) = refl
step-other s (step.Release client block prune) = refl
step-other s (step.Ticket AnswerProbe ticket) = refl
step-other s (step.Ticket TakeGrant ticket) = refl
step-other s (step.Ticket TakeReleaseAck ticket) = refl
step-other s (step.Ticket Accept ticket) = refl
step-other s (step.Ticket TakeC ticket) = refl
step-other s (step.Ticket TakeGrantAck ticket) = refl
step-other s (step.Block Advance block) = refl
step-other s (step.Block Evict block) = refl
step-other s (step.Block ServeMemory block) = refl
step-other s (step.Block TakeMemory block) = refl

-- a step that found no memory found no room
pub step-room : (s : Scene) (asked : Step) (room : ℕ) → IsRefused (first_of (cases_of s asked)) room Memory → room ≡ 0
step-room s asked room refused = no-room (cases_of s asked) room (step-other s asked) refused
