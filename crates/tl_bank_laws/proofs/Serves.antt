-- What a call of home leaves, as its caller sees it.
use Rattle.std.proofs.Common.{◌≡◌, ℕ, ◌+◌, ◌≤◌, List, Option, None, slice_index_or, ◌∙◌, ap, arith}
use Rattle.tl_protocol.specs.declared.event.Event.{Event}
use Rattle.tl_registers.specs.declared.register.Register.{Register}
use Rattle.tl_bank_spec.specs.Effects.{AppendsWith}
use Rattle.tl_bank_spec.specs.View.{View}
use Rattle.tl_bank_laws.proofs.Next.{next_view}

-- One event more, of a bank that made room for it.
pub serves-next : (old v : View) (e : Event) (between room : ℕ) (registers open_then : List Register) (ways : List (Option ℕ))
    (lies : ℕ → Option ℕ) → v ≡ record old { room = between } → old.room ≤ between → between ≤ room + 1 → registers ≡ open_then
    → ((b : ℕ) → slice_index_or ways b None ≡ lies b) → AppendsWith old (next_view v e room registers ways) e open_then lies
serves-next old v e between room registers open_then ways lies made grows small opens same = record {
  is = ap (λ (w : View). next_view w e room registers ways) made ∙ ap (λ (rs : List Register). next_view old e room rs ways) opens;
  room = omega (arith, grows, small);
  ways = same;
}
