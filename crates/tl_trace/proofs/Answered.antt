-- An answer is a refusal where one stands against the step, else what the step did.
use Rattle.std.proofs.Common.{◌≡◌, ◌≢◌, ℕ, Option, Some, None, Result, Ok, Err, OnErr, OnOk, ◌∙◌, ap, subst}
use Rattle.tl_bank_spec.specs.Refusal.{IsRefused}
use Rattle.tl_bank_spec.specs.declared.refusal.Refusal.{Refusal}
use Rattle.tl_bank_spec.specs.declared.refusal.Refusal.TheVariants.{Memory}
use Rattle.tl_text.specs.declared.answer.Answer.{Answer}
use Rattle.tl_text.specs.declared.answer.Answer.TheVariants.{Refused}
use Rattle.tl_trace.specs.Answers.{Answers, IsStarved}

-- a call that was refused, for another cause than memory
pub answers-refused : (first : Option Refusal) (room : ℕ) (refusal : Refusal) (unchanged done : Type 0) (answer : Answer)
    → IsRefused first room refusal → refusal ≢ Memory → unchanged → answer ≡ Refused refusal → Answers first unchanged done answer
answers-refused None room refusal unchanged done answer is other same says = absurd (other is.0)
answers-refused (Some r) room refusal unchanged done answer is other same says = (same, says ∙ ap Refused is)

-- a refusal that was made an answer
pub err-answers : {T E : Type 0} (result : Result T E) (first : Option Refusal) (room : ℕ) (refusal : Refusal) (unchanged done : Type 0)
    (answer : Answer) → OnOk result (answer ≡ Refused refusal) → OnOk result (refusal ≢ Memory) → IsRefused first room refusal → unchanged
    → OnOk result (Answers first unchanged done answer)
err-answers (Ok v) first room refusal unchanged done answer says other is same =
    answers-refused first room refusal unchanged done answer is other same says
err-answers (Err e) first room refusal unchanged done answer says other is same = tt

-- a refusal that was want of memory
pub err-starved : {T E : Type 0} (result : Result T E) (first : Option Refusal) (room : ℕ) (refusal : Refusal) (unchanged : Type 0)
    → OnErr result (refusal ≡ Memory) → IsRefused first room refusal → unchanged → OnErr result (IsStarved first room unchanged)
err-starved (Ok v) first room refusal unchanged memory is same = tt
err-starved (Err e) first room refusal unchanged memory is same = (same, subst (λ r. IsRefused first room r) memory is)

-- what follows of each refusal of memory follows of a call that may have none
pub if-starved : {T E : Type 0} (result : Result T E) (P Q : Type 0) → (P → Q) → OnErr result P → OnErr result Q
if-starved (Ok v) P Q f h = tt
if-starved (Err e) P Q f h = f h

-- what holds anyway holds of a call that may have no answer
pub any-err : {T E : Type 0} (result : Result T E) (P : Type 0) → P → OnErr result P
any-err (Ok answer) P h = tt
any-err (Err e) P h = h

-- what follows of success follows of a call that may fail
pub if-done : {T E : Type 0} (result : Result T E) (P Q : Type 0) → (P → Q) → OnOk result P → OnOk result Q
if-done (Ok answer) P Q f h = f h
if-done (Err e) P Q f h = tt

-- what follows of want of memory and of less room follows of a call that may have neither
pub if-short : {V : Type 0} (result : Result V Refusal) (P Q R : Type 0) → (P → Q → R) → OnErr result P → OnErr result Q → OnErr result R
if-short (Ok v) P Q R f h k = tt
if-short (Err e) P Q R f h k = f h k
