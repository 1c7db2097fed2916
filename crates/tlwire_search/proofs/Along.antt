-- A run that goes along what was seen.
use Rattle.std.proofs.Common.{◌≡◌, ◌<◌, ℕ, Bool, true, false, cond, List, [], ◌∷◌, ◌++◌, Option, Some, None, refl, sym, ap, ◌∙◌, subst, append_assoc, length, arith, inl, inr}
use Rattle.std.proofs.lemmas.List.{append-nil}
use Rattle.tl_protocol.specs.declared.event.Event.{Event}
use Rattle.tl_protocol.specs.declared.shape.Shape.{Shape}
use Rattle.tl_protocol.specs.Protocol.{Block, block_of}
use Rattle.tl_protocol.specs.Runs.{at_reset, after_next, end_from, end_of}
use Rattle.tl_rules.specs.Plain.{IsReset, IsStep, state_of_plain}
use Rattle.tl_rules.specs.PlainState.{PlainState}
use Rattle.tlwire_search.proofs.Led.{led_at_reset, led_on}
use Rattle.tlwire_search.proofs.Marking.{same_wire-true}
use Rattle.tlwire_search.specs.Explained.{Explains, IsSeenOn, as_list, on, same_wire, seen_along, seen_from, seen_of, wire_of}
use Rattle.tlwire_search.specs.Led.{own_block}
use Rattle.tlwire_search.specs.Left.{GoesAlong, GoesAlongOn, IsMarking, IsNext, MarkState, left}
use Rattle.tlwire_search.specs.Premises.{may_have_more}
use Rattle.tlwire_search.specs.declared.premises.Premises.{Premises}
use Rattle.tlwire_search.specs.declared.seen.Seen.{Seen}
use Rattle.tlwire_search.specs.declared.seen.Wire.{Wire}

-- whether or not the first is there
if_joined : (t : Bool) (s : Seen) (xs ys : List Seen) → cond t (s ∷ (xs ++ ys)) (xs ++ ys) ≡ cond t (s ∷ xs) xs ++ ys
if_joined true s xs ys = refl
if_joined false s xs ys = refl

-- what is seen on a wire of two lists
on-append : (w : Wire) (xs ys : List Seen) → on w (xs ++ ys) ≡ on w xs ++ on w ys
on-append w [] ys = refl
on-append w (s ∷ rest) ys =
    ap (λ (zs : List Seen). cond (same_wire w (wire_of s)) (s ∷ zs) zs) (on-append w rest ys)
    ∙ if_joined (same_wire w (wire_of s)) s (on w rest) (on w ys)

-- what is seen of one more event
grows : (shape : Shape) (s : ℕ → Block) (run : List Event) (e : Event)
    → seen_from shape s (run ++ e ∷ []) ≡ seen_from shape s run ++ as_list (seen_of shape (end_from shape s run (block_of shape e)) e)
grows shape s [] e = append-nil (as_list (seen_of shape (s (block_of shape e)) e))
grows shape s (x ∷ rest) e =
    ap (λ (zs : List Seen). as_list (seen_of shape (s (block_of shape x)) x) ++ zs) (grows shape (after_next shape s x) rest e)
    ∙ sym (append_assoc (as_list (seen_of shape (s (block_of shape x)) x)) (seen_from shape (after_next shape s x) rest) (as_list (seen_of shape (end_from shape (after_next shape s x) rest (block_of shape e)) e)))

-- the marks that an event leaves, of which this is seen
abbrev pub IsNextBy : Premises → List Seen → MarkState → MarkState → Option Seen → Type 0
IsNextBy premises seen old new None = new ≡ old
IsNextBy premises seen old new (Some s) = IsNext premises seen old new s

-- nothing in front of nothing
nothing_in_front : (xs ys : List Seen) → xs ++ ys ≡ [] → (xs ≡ []) × (ys ≡ [])
nothing_in_front [] ys e = (refl, e)
nothing_in_front (x ∷ xs) ys e = cc

-- what is marked on a wire, and what is left
marked_on : (more : Bool) (all rest these after seen : List Seen) → rest ≡ these ++ after → GoesAlongOn more all rest seen → GoesAlongOn more (all ++ these) after seen
marked_on false all rest these after seen e g = append_assoc all these after ∙ (ap (λ (xs : List Seen). all ++ xs) (sym e) ∙ g)
marked_on true all rest these after seen e (inl g) = inl (append_assoc all these after ∙ (ap (λ (xs : List Seen). all ++ xs) (sym e) ∙ g))
marked_on true all rest these after seen e (inr (done, (unseen, g))) =
    let both : (these ≡ []) × (after ≡ []) = nothing_in_front these after (sym e ∙ done) in
    inr (both.1, (unseen, ap (λ (xs : List Seen). all ++ xs) both.0 ∙ (append-nil all ∙ g)))

-- one more behind what was seen
unseen_on : (more : Bool) (all rest seen : List Seen) (s : Seen) → more ≡ true → rest ≡ [] → GoesAlongOn more all rest seen → GoesAlongOn more (all ++ s ∷ []) rest seen
unseen_on false all rest seen s m done g = cc
unseen_on true all rest seen s m done (inl g) =
    inr (done, (s ∷ [], ap (λ (xs : List Seen). xs ++ s ∷ []) (sym (append-nil all) ∙ (ap (λ (xs : List Seen). all ++ xs) (sym done) ∙ g))))
unseen_on true all rest seen s m done (inr (h, (unseen, g))) =
    inr (done, (unseen ++ s ∷ [], ap (λ (xs : List Seen). xs ++ s ∷ []) g ∙ append_assoc seen unseen (s ∷ [])))

-- a message that was not seen, on its wire and on others
here_or_not : (more : Bool) (t : Bool) (all rest seen : List Seen) (s : Seen) → (t ≡ true → more ≡ true) → (t ≡ true → rest ≡ [])
    → GoesAlongOn more all rest seen → GoesAlongOn more (all ++ cond t (s ∷ []) []) rest seen
here_or_not more true all rest seen s m done g = unseen_on more all rest seen s (m refl) (done refl) g
here_or_not more false all rest seen s m done g = subst (λ (xs : List Seen). GoesAlongOn more xs rest seen) (sym (append-nil all)) g

-- what goes along still does, after this is seen or not
pub goes : (premises : Premises) (seen all : List Seen) (old new : MarkState) (shown : Option Seen) → IsNextBy premises seen old new shown → (w : Wire)
    → GoesAlongOn (may_have_more premises w) (on w all) (on w (left old.marks seen)) (on w seen)
    → GoesAlongOn (may_have_more premises w) (on w all ++ on w (as_list shown)) (on w (left new.marks seen)) (on w seen)
goes premises seen all old new None same w g =
    subst (λ (n : MarkState). GoesAlongOn (may_have_more premises w) (on w all ++ []) (on w (left n.marks seen)) (on w seen)) (sym same)
    (subst (λ (xs : List Seen). GoesAlongOn (may_have_more premises w) xs (on w (left old.marks seen)) (on w seen)) (sym (append-nil (on w all))) g)
goes premises seen all old new (Some s) (inl marked) w g =
    marked_on (may_have_more premises w) (on w all) (on w (left old.marks seen)) (on w (s ∷ [])) (on w (left new.marks seen)) (on w seen) (marked.next w) g
goes premises seen all old new (Some s) (inr (more, done, same, marking)) w g =
    let at : same_wire w (wire_of s) ≡ true → w ≡ wire_of s = same_wire-true w (wire_of s) in
    here_or_not (may_have_more premises w) (same_wire w (wire_of s)) (on w all) (on w (left new.marks seen)) (on w seen) s
    (λ h. subst (λ (v : Wire). may_have_more premises v ≡ true) (sym (at h)) more)
    (λ h. subst (λ (v : Wire). on v (left new.marks seen) ≡ []) (sym (at h)) done)
    (subst (λ (ms : List Bool). GoesAlongOn (may_have_more premises w) (on w all) (on w (left ms seen)) (on w seen)) (sym same) g)

-- there is a mark for each thing seen still
pub still : (premises : Premises) (seen : List Seen) (old new : MarkState) (shown : Option Seen) → IsMarking seen old → IsNextBy premises seen old new shown → IsMarking seen new
still premises seen old new None m same = subst (λ (n : MarkState). IsMarking seen n) (sym same) m
still premises seen old new (Some s) m (inl marked) = marked.marking
still premises seen old new (Some s) m (inr (more, done, same, marking)) = marking

module _ (premises : Premises) (shape : Shape) (image : List ℕ) (seen : List Seen) (run : List Event) (p : PlainState) (m : MarkState) (g : GoesAlong premises shape image seen run p m) where
  -- what is seen of one more event that may come next
  own : (e : Event) → block_of p.shape e < p.shape.blocks
      → seen_along shape image (run ++ e ∷ []) ≡ seen_along shape image run ++ as_list (seen_of p.shape (own_block p e) e)
  own e lt =
      grows shape (at_reset shape image) run e
      ∙ subst (λ (sh : Shape). seen_along shape image run ++ as_list (seen_of shape (end_of shape image run (block_of shape e)) e)
      ≡ seen_along shape image run ++ as_list (seen_of sh (state_of_plain p (block_of sh e)) e)) (sym g.leads.same_shape)
      (ap (λ (b : Block). seen_along shape image run ++ as_list (seen_of shape b e))
      (g.leads.ended (block_of shape e) (subst (λ (sh : Shape). block_of sh e < sh.blocks) g.leads.same_shape lt)))

  -- one more event
  pub goes_on : (e : Event) (new : PlainState) (marks : MarkState) → IsStep p new e
      → IsNextBy premises seen m marks (seen_of p.shape (own_block p e) e)
      → GoesAlong premises shape image seen (run ++ e ∷ []) new marks
  goes_on e new marks step marked =
      let shown : Option Seen = seen_of p.shape (own_block p e) e in
      record {
        leads = led_on shape image run p new e g.leads step;
        marking = still premises seen m marks shown g.marking marked;
        each = λ w.
            subst (λ (xs : List Seen). GoesAlongOn (may_have_more premises w) xs (on w (left marks.marks seen)) (on w seen))
            (sym (ap (λ (xs : List Seen). on w xs) (own e step.permitted.0) ∙ on-append w (seen_along shape image run) (as_list shown)))
            (goes premises seen (seen_along shape image run) m marks shown marked w (g.each w));
      }

-- no event, and no mark
starts_on : (more : Bool) (rest seen : List Seen) → rest ≡ seen → GoesAlongOn more [] rest seen
starts_on false rest seen e = e
starts_on true rest seen e = inl e

pub starts : (premises : Premises) (shape : Shape) (image : List ℕ) (seen : List Seen) (p : PlainState) (m : MarkState)
    → IsReset shape image p → IsMarking seen m → left m.marks seen ≡ seen → GoesAlong premises shape image seen [] p m
starts premises shape image seen p m reset marking all =
    record {
      leads = led_at_reset shape image p reset;
      marking = marking;
      each = λ w. starts_on (may_have_more premises w) (on w (left m.marks seen)) (on w seen) (ap (λ (xs : List Seen). on w xs) all);
    }

-- nothing is left
ends_on : (more : Bool) (all rest seen : List Seen) → rest ≡ [] → GoesAlongOn more all rest seen → IsSeenOn more all seen
ends_on false all rest seen none g = sym (append-nil all) ∙ (ap (λ (xs : List Seen). all ++ xs) (sym none) ∙ g)
ends_on true all rest seen none (inl g) =
    ([], sym (append-nil all) ∙ (ap (λ (xs : List Seen). all ++ xs) (sym none) ∙ (g ∙ sym (append-nil seen))))
ends_on true all rest seen none (inr (done, more)) = more

pub explains : (premises : Premises) (shape : Shape) (image : List ℕ) (seen : List Seen) (run : List Event) (p : PlainState) (m : MarkState)
    → GoesAlong premises shape image seen run p m → left m.marks seen ≡ [] → Explains premises shape image seen run
explains premises shape image seen run p m g none =
    record {
      lawful = g.leads.lawful;
      seen_there = λ w.
          ends_on (may_have_more premises w) (on w (seen_along shape image run)) (on w (left m.marks seen)) (on w seen)
          (ap (λ (xs : List Seen). on w xs) none) (g.each w);
    }

-- no event has nothing to be seen
nothing_on : (more : Bool) (seen : List Seen) → [] ≡ seen → IsSeenOn more [] seen
nothing_on false seen e = e
nothing_on true seen e = ([], e ∙ sym (append-nil seen))

pub nothing : (premises : Premises) (shape : Shape) (image : List ℕ) (seen : List Seen) (run : List Event) → seen ≡ [] → run ≡ [] → Explains premises shape image seen run
nothing premises shape image seen run none empty =
    subst (λ (es : List Event). Explains premises shape image seen es) (sym empty)
    (record {
      lawful = tt;
      seen_there = λ w. nothing_on (may_have_more premises w) (on w seen) (ap (λ (xs : List Seen). on w xs) (sym none));
    })

-- a list without an element
pub is_nothing : (seen : List Seen) → length seen ≡ 0 → seen ≡ []
is_nothing [] h = refl
is_nothing (s ∷ rest) h = absurd (omega (arith, h))
