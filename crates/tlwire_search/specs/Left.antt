-- How far a run goes along what was seen: what a walk along it keeps. No public clause cites these.
use Rattle.std.specs.Prelude.{◌≡◌, ◌<◌, ◌⊎◌, ℕ, All, Bool, true, false, List, [], ◌∷◌, ◌++◌, length, slice_index_or, if◌then◌else◌}
use Rattle.tl_protocol.specs.declared.event.Event.{Event}
use Rattle.tl_protocol.specs.declared.shape.Shape.{Shape}
use Rattle.tl_rules.specs.PlainState.{PlainState}
use Rattle.tlwire_search.specs.Explained.{on, seen_along, wire_of}
use Rattle.tlwire_search.specs.Led.{LeadsTo}
use Rattle.tlwire_search.specs.Premises.{may_have_more}
use Rattle.tlwire_search.specs.declared.premises.Premises.{Premises}
use Rattle.tlwire_search.specs.declared.seen.Seen.{Seen}
use Rattle.tlwire_search.specs.declared.seen.Wire.{Wire}

-- what is not marked yet
abbrev pub left : List Bool → List Seen → List Seen
left [] seen = seen
left (mark ∷ marks) [] = []
left (mark ∷ marks) (s ∷ rest) = if mark then left marks rest else s ∷ left marks rest

-- a mark for each thing seen, and the wires on which each has one
pub record MarkState : Type 0 where
  pub marks : List Bool
  pub from : ℕ
  pub done : List Wire

-- each of these is marked up to a place
abbrev pub AreMarked : List Bool → ℕ → Type 0
AreMarked marks place = (k : ℕ) → k < place → slice_index_or marks k false ≡ true

-- nothing is left on a wire
abbrev pub IsDone : List Seen → List Bool → Wire → Type 0
IsDone seen marks wire = on wire (left marks seen) ≡ []

-- there is a mark for each thing seen, those before a place are marked, and on these wires nothing is left
pub record IsMarking (seen : List Seen) (m : MarkState) : Type 0 where
  pub sized : length m.marks ≡ length seen
  pub before : AreMarked m.marks m.from
  pub done : All (IsDone seen m.marks) m.done

-- this is marked as the next on its wire
pub record IsMarked (seen : List Seen) (old new : MarkState) (s : Seen) : Type 0 where
  pub marking : IsMarking seen new
  pub next : (wire : Wire) → on wire (left old.marks seen) ≡ on wire (s ∷ []) ++ on wire (left new.marks seen)

-- this is marked as the next on its wire; or nothing is left there, where more may have been sent
abbrev pub IsNext : Premises → List Seen → MarkState → MarkState → Seen → Type 0
IsNext premises seen old new s =
    IsMarked seen old new s
    ⊎ ((may_have_more premises (wire_of s) ≡ true) × IsDone seen new.marks (wire_of s) × (new.marks ≡ old.marks) × IsMarking seen new)

-- What is seen of a run on a wire, and what is left of it there, is all that was seen there; or nothing is left there, and the run goes on
-- where more may have been sent.
abbrev pub GoesAlongOn : Bool → List Seen → List Seen → List Seen → Type 0
GoesAlongOn false all rest seen = all ++ rest ≡ seen
GoesAlongOn true all rest seen = (all ++ rest ≡ seen) ⊎ ((rest ≡ []) × ((unseen : List Seen) × (all ≡ seen ++ unseen)))

-- A run is lawful, and leads to a map of the state, and what is seen of it is what is marked, or was not seen.
pub record GoesAlong (premises : Premises) (shape : Shape) (image : List ℕ) (seen : List Seen) (run : List Event) (plain : PlainState) (m : MarkState) : Type 0 where
  pub leads : LeadsTo shape image run plain
  pub marking : IsMarking seen m
  pub each :
      (wire : Wire)
      → GoesAlongOn (may_have_more premises wire) (on wire (seen_along shape image run)) (on wire (left m.marks seen)) (on wire seen)
