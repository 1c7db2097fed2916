-- The tickets of one sender, after one more ticket.
use Rattle.std.proofs.Common.{◌≡◌, ◌≢◌, ℕ, ◌<◌, ◌≤◌, ◌==◌, true, false, cond, List, [], ◌∷◌, ◌++◌, refl, ap, ◌∙◌, eq-eqb, ne_eqb, arith}
use Rattle.tl_tickets.specs.declared.sent.Sent.{Sent}
use Rattle.tl_tickets.specs.Inbox.{tickets_of, AreFrom}

-- a sender's tickets in two lists, one after the other
pub tickets_of-append : (s : ℕ) (xs ys : List Sent) → tickets_of s (xs ++ ys) ≡ tickets_of s xs ++ tickets_of s ys
tickets_of-append s [] ys = refl
tickets_of-append s (x ∷ xs) ys =
    let more = tickets_of-append s xs ys in
    elim (x.sender == s) as (λ b. cond b (x.ticket ∷ tickets_of s (xs ++ ys)) (tickets_of s (xs ++ ys)) ≡ cond b (x.ticket ∷ tickets_of s xs) (tickets_of s xs) ++ tickets_of s ys) [
      | true ↦ ap (λ l. x.ticket ∷ l) more
      | false ↦ more
    ]

-- a ticket of the sender is its own
pub own_ticket : (s : ℕ) (x : Sent) → x.sender ≡ s → tickets_of s (x ∷ []) ≡ x.ticket ∷ []
own_ticket s x e = ap (λ b. cond b (x.ticket ∷ []) []) (eq-eqb x.sender s e)

-- a ticket of another is not
pub other_ticket : (s : ℕ) (x : Sent) → x.sender ≢ s → tickets_of s (x ∷ []) ≡ []
other_ticket s x n = ap (λ b. cond b (x.ticket ∷ []) []) (ne_eqb x.sender s n)

-- a sender past the first n has no tickets
pub no_tickets : (n s : ℕ) (xs : List Sent) → n < s → AreFrom n xs → tickets_of s xs ≡ []
no_tickets n s [] past from = refl
no_tickets n s (x ∷ xs) past from =
    let at : x.sender ≤ n = from.0.1 in
    let apart : x.sender ≢ s = λ e. absurd (omega arith) in
    ap (λ b. cond b (x.ticket ∷ tickets_of s xs) (tickets_of s xs)) (ne_eqb x.sender s apart) ∙ no_tickets n s xs past from.1
