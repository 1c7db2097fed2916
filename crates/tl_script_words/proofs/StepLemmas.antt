-- Steps of three words, and tickets of four, refuse any other number of them.
use Rattle.std.proofs.Common.{◌≡◌, ℕ, List, [], ◌∷◌, length, Option, None, Bor, refl, arith}
use Rattle.std.proofs.lemmas.List.{length-map}
use Rattle.tl_script_words.specs.Words.{texts}
use Rattle.tl_script_words.specs.Step.{acquire_of, release_of}
use Rattle.tl_script_words.specs.Ticket.{ticket_in}

-- a reader that refuses none, one, two, and four or more words refuses any number but three
only_three : {B : Type 0} (f : List (List ℕ) → Option B) → f [] ≡ None → ((a : List ℕ) → f (a ∷ []) ≡ None) → ((a b : List ℕ) → f (a ∷ b ∷ []) ≡ None)
    → ((a b c d : List ℕ) (ws : List (List ℕ)) → f (a ∷ b ∷ c ∷ d ∷ ws) ≡ None) → (ws : List (List ℕ)) → (length ws ≡ 3 → ⊥) → f ws ≡ None
only_three f none one two more [] h = none
only_three f none one two more (a ∷ []) h = one a
only_three f none one two more (a ∷ b ∷ []) h = two a b
only_three f none one two more (a ∷ b ∷ c ∷ []) h = absurd (h (omega arith))
only_three f none one two more (a ∷ b ∷ c ∷ d ∷ ws) h = more a b c d ws

-- words that are not three have not three texts
texts_three : (words : List (Bor (List ℕ))) → (length words ≡ 3 → ⊥) → length (texts words) ≡ 3 → ⊥
texts_three words h e = h (rw length-map at e)

-- an `acquire` has three arguments
pub acquire_of-other : (words : List (Bor (List ℕ))) → (length words ≡ 3 → ⊥) → acquire_of (texts words) ≡ None
unfolding acquire_of
acquire_of-other words h = only_three (λ ws. acquire_of ws) refl (λ _. refl) (λ _ _. refl) (λ _ _ _ _ _. refl) (texts words) (texts_three words h)

-- a `release` has three arguments
pub release_of-other : (words : List (Bor (List ℕ))) → (length words ≡ 3 → ⊥) → release_of (texts words) ≡ None
unfolding release_of
release_of-other words h = only_three (λ ws. release_of ws) refl (λ _. refl) (λ _ _. refl) (λ _ _ _ _ _. refl) (texts words) (texts_three words h)

-- a ticket has four fields
pub ticket_in-other : (fields : List (Bor (List ℕ))) → (length fields ≡ 4 → ⊥) → ticket_in (texts fields) ≡ None
unfolding ticket_in
ticket_in-other [] h = refl
ticket_in-other (a ∷ []) h = refl
ticket_in-other (a ∷ b ∷ []) h = refl
ticket_in-other (a ∷ b ∷ c ∷ []) h = refl
ticket_in-other (a ∷ b ∷ c ∷ d ∷ []) h = absurd (h (omega arith))
ticket_in-other (a ∷ b ∷ c ∷ d ∷ e ∷ fields) h = refl
