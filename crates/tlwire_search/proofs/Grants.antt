-- To which of the clients a Grant of a block is seen first.
use Rattle.std.proofs.Common.{◌≡◌, ◌<◌, ◌≤◌, ◌+◌, ℕ, Option, Some, None, length, subst, inl, inr, arith}
use Rattle.std.proofs.lemmas.Option.{slice_get_within}
use Rattle.tl_types.specs.declared.channel.Channel.TheVariants.{D}
use Rattle.tlwire_search.specs.Unsent.{IsFirstUnsent, IsGrantedFirst, IsUnsentAt}
use Rattle.tlwire_search.specs.declared.seen.Wire.TheVariants.{Link}
use Rattle.tlwire_search.specs.declared.sought.Sought.TheVariants.{Grant}
use Rattle.tlwire_search.specs.declared.wires.Wires.{Wires}
use Rattle.tlwire_search.proofs.Listing.{at_most, two_cases}

-- an unsent Grant of the block to the client stands at the place
abbrev pub GrantAt : Wires → ℕ → ℕ → ℕ → Type 0
GrantAt w block x place = IsUnsentAt w (Link x D) block Grant place

-- of the clients below a number, this is the one whose Grant is seen first, at the least place; or none is unsent
abbrev pub LeastOf : Wires → ℕ → ℕ → Option ℕ → ℕ → Type 0
LeastOf w block number None least = (least ≡ length w.seen.now) × ((x place : ℕ) → x < number → GrantAt w block x place → ⊥)
LeastOf w block number (Some c) least =
    (c < number) × GrantAt w block c least × ((x place : ℕ) → x < number → GrantAt w block x place → least ≤ place)

-- the next client has none
pub least_none : (w : Wires) (block number : ℕ) (first : Option ℕ) (least : ℕ)
    → LeastOf w block number first least → IsFirstUnsent w (Link number D) block Grant None → LeastOf w block (number + 1) first least
least_none w block number None least h none = (
  h.0,
  λ x place low u. elim (two_cases x number (omega arith)) [
    | inl e ↦ none place (subst (λ (n : ℕ). GrantAt w block n place) e u)
    | inr lower ↦ h.1 x place lower u
  ],
)
least_none w block number (Some c) least h none = (
  (let low : c < number = h.0 in omega arith),
  h.1,
  λ x place low u. elim (two_cases x number (omega arith)) [
    | inl e ↦ absurd (none place (subst (λ (n : ℕ). GrantAt w block n place) e u))
    | inr lower ↦ h.2 x place lower u
  ],
)

-- it has one before all others
pub least_less : (w : Wires) (block number : ℕ) (first : Option ℕ) (least place : ℕ)
    → LeastOf w block number first least → IsFirstUnsent w (Link number D) block Grant (Some place) → place < least
    → LeastOf w block (number + 1) (Some number) place
least_less w block number None least place h found less = (
  omega arith,
  found.0,
  λ x p low u. elim (two_cases x number (omega arith)) [
    | inl e ↦ elim (at_most place p) [
      | inl le ↦ le
      | inr before ↦ absurd (found.1 p before (subst (λ (n : ℕ). GrantAt w block n p) e u))
    ]
    | inr lower ↦ absurd (h.1 x p lower u)
  ],
)
least_less w block number (Some c) least place h found less = (
  omega arith,
  found.0,
  λ x p low u. elim (two_cases x number (omega arith)) [
    | inl e ↦ elim (at_most place p) [
      | inl le ↦ le
      | inr before ↦ absurd (found.1 p before (subst (λ (n : ℕ). GrantAt w block n p) e u))
    ]
    | inr lower ↦ omega (arith, h.2 x p lower u)
  ],
)

-- it has one behind another's
pub least_more : (w : Wires) (block number : ℕ) (first : Option ℕ) (least place : ℕ)
    → LeastOf w block number first least → IsFirstUnsent w (Link number D) block Grant (Some place) → least ≤ place
    → LeastOf w block (number + 1) first least
least_more w block number None least place h found more =
    let u : GrantAt w block number place = found.0 in
    absurd (omega (arith, h.0, slice_get_within w.seen.now place u.line u.at))
least_more w block number (Some c) least place h found more = (
  (let low : c < number = h.0 in omega arith),
  h.1,
  λ x p low u. elim (two_cases x number (omega arith)) [
    | inl e ↦ elim (at_most place p) [
      | inl le ↦ omega arith
      | inr before ↦ absurd (found.1 p before (subst (λ (n : ℕ). GrantAt w block n p) e u))
    ]
    | inr lower ↦ h.2 x p lower u
  ],
)

-- so the answer is told of all of them
pub first_of_all : (w : Wires) (block clients : ℕ) (first : Option ℕ) (least : ℕ)
    → LeastOf w block clients first least → IsGrantedFirst w clients block first
first_of_all w block clients None least h = h.1
first_of_all w block clients (Some c) least h = (least, h.0, h.1, h.2)
