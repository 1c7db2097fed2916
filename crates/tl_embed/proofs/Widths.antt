-- What is told in few bytes is what an answer tells.
use Rattle.std.proofs.Common.{◌≡◌, ◌⊎◌, inl, inr, ℕ, ◌≤◌, ◌-◌, ◌+◌, List, ◌++◌, length, replicate, refl, ◌∙◌, ap, append_assoc, arith}
use Rattle.std.proofs.lemmas.List.{replicate-append-replicate}
use Rattle.tl_types.specs.declared.limits.TheConstants.{BLOCK_BYTES}
use Rattle.tl_bank_spec.specs.Refusal.{refusal_number}
use Rattle.tl_bank_spec.specs.declared.refusal.Refusal.{Refusal}
use Rattle.tl_bank_spec.specs.declared.refusal.Refusal.TheVariants.{NoPermission, Waiting, WrongFrom, NothingThere, NotHead, ReleasePending, NoRegister, BlockBusy, NotYet, OutOfRange, WrongBank, CopiesFull, LinkFull, Memory, ClockFull}
use Rattle.tl_script_words.specs.declared.step.Step.{Step}
use Rattle.tl_text.specs.declared.answer.Answer.TheVariants.{Refused}
use Rattle.tl_trace.specs.NetworkState.{NetworkState}
use Rattle.tl_trace.specs.NetworkSteps.{IsNetworkStep, IsRefusedNetwork}
use Rattle.tl_embed.specs.Calls.{IsPlayed, IsStarved}
use Rattle.tl_embed.specs.Told.{only}
use Rattle.tl_embed.specs.declared.answer.Answer.{Answer}

-- zeros up to eight bytes, and then up to `BLOCK_BYTES`
pub padded-wide : (bytes : List ℕ) → length bytes ≤ 8
    → (bytes ++ replicate (8 - length bytes) 0) ++ replicate 56 0 ≡ bytes ++ replicate (BLOCK_BYTES - length bytes) 0
padded-wide bytes few =
    let sum : 8 - length bytes + 56 ≡ BLOCK_BYTES - length bytes = omega (arith, few) in
    append_assoc bytes (replicate (8 - length bytes) 0) (replicate 56 0)
    ∙ ap (λ (zeros : List ℕ). bytes ++ zeros)
    (replicate-append-replicate (8 - length bytes) 56 0 ∙ ap (λ (n : ℕ). replicate n 0) sum)

-- a refusal other than want of memory
another : (refusal : Refusal) (index : ℕ) (step : Step) (old new : NetworkState) (told : Answer) → IsNetworkStep index step old new (Refused refusal)
    → told ≡ only (refusal_number refusal) → IsPlayed index step old new told ⊎ IsStarved step old new told
another refusal index step old new told does says = inl (record { shown = Refused refusal; does = does; tells = says })

-- a refusal is told, and want of memory as what it is
pub refused-asks : (refusal : Refusal) (index : ℕ) (step : Step) (old new : NetworkState) (told : Answer)
    → IsRefusedNetwork index step old new refusal → told ≡ only (refusal_number refusal)
    → IsPlayed index step old new told ⊎ IsStarved step old new told
refused-asks Memory index step old new told h says = inr (h.starved refl, says)
refused-asks NoPermission index step old new told h says = another NoPermission index step old new told (h.refused (λ e. cc)) says
refused-asks Waiting index step old new told h says = another Waiting index step old new told (h.refused (λ e. cc)) says
refused-asks WrongFrom index step old new told h says = another WrongFrom index step old new told (h.refused (λ e. cc)) says
refused-asks NothingThere index step old new told h says = another NothingThere index step old new told (h.refused (λ e. cc)) says
refused-asks NotHead index step old new told h says = another NotHead index step old new told (h.refused (λ e. cc)) says
refused-asks ReleasePending index step old new told h says = another ReleasePending index step old new told (h.refused (λ e. cc)) says
refused-asks NoRegister index step old new told h says = another NoRegister index step old new told (h.refused (λ e. cc)) says
refused-asks BlockBusy index step old new told h says = another BlockBusy index step old new told (h.refused (λ e. cc)) says
refused-asks NotYet index step old new told h says = another NotYet index step old new told (h.refused (λ e. cc)) says
refused-asks OutOfRange index step old new told h says = another OutOfRange index step old new told (h.refused (λ e. cc)) says
refused-asks WrongBank index step old new told h says = another WrongBank index step old new told (h.refused (λ e. cc)) says
refused-asks CopiesFull index step old new told h says = another CopiesFull index step old new told (h.refused (λ e. cc)) says
refused-asks LinkFull index step old new told h says = another LinkFull index step old new told (h.refused (λ e. cc)) says
refused-asks ClockFull index step old new told h says = another ClockFull index step old new told (h.refused (λ e. cc)) says
