-- Where each pass is there once, all passes together settle each sender's account.
use Rattle.std.proofs.Common.{◌≡◌, ◌≢◌, ℕ, ◌+◌, ◌^◌, ◌<◌, ◌≤◌, ◌==◌, ◌||◌, Bool, true, false, cond, List, [], ◌∷◌, ◌++◌, length, count_by, sym, refl, ap, ◌∙◌, subst, eq-eqb, ne_eqb, length-append, arith}
use Rattle.std.specs.List.{AllByRecursion}
use Rattle.std.specs.List.{All, sum_by}
use Rattle.std.proofs.lemmas.List.Sums.{sum_by-cons}
use mathlib.Core.Logic.{dite}
use native.Mathlib.Decide.{ℕ_discrete}
use Rattle.tl_tickets.specs.declared.sent.Sent.{Sent}
use Rattle.tl_tickets.specs.declared.sent.Put.{Put}
use Rattle.tl_tickets.specs.declared.sent.Known.{Known}
use Rattle.tl_tickets.specs.Inbox.{InboxView, PassView, tickets_of, AreFrom, Accounts, IsPassOf, IsEachOnce, Settles}
use Rattle.tl_tickets.specs.Delivery.{put_by, receiver, sender, known, gathered, Agrees, Shows, put_count, taken_count, IsTotal}
use Rattle.tl_tickets.proofs.Each.{AllByRecursion-weaker, AllByRecursion-both, AllByRecursion-left, AllByRecursion-right, All-from_each, AllByRecursion-from_all}
use Rattle.tl_tickets.proofs.Filters.{tickets_of-append}

-- how often a number is there
abbrev numbered : ℕ → List PassView → ℕ
numbered k ps = count_by (λ (p : PassView). p.number == k) ps

-- a pass counts for its own number
numbered_here : (k : ℕ) (p : PassView) (ps : List PassView) → p.number ≡ k → numbered k (p ∷ ps) ≡ 1 + numbered k ps
numbered_here k p ps e = sum_by-cons (λ (q : PassView). cond (q.number == k) 1 0) p ps ∙ ap (λ b. cond b 1 0 + numbered k ps) (eq-eqb p.number k e)

-- and for no other
numbered_else : (k : ℕ) (p : PassView) (ps : List PassView) → p.number ≢ k → numbered k (p ∷ ps) ≡ numbered k ps
numbered_else k p ps n =
    let step = sum_by-cons (λ (q : PassView). cond (q.number == k) 1 0) p ps ∙ ap (λ b. cond b 1 0 + numbered k ps) (ne_eqb p.number k n) in
    let s : numbered k (p ∷ ps) ≡ 0 + numbered k ps = step in omega arith

-- what the receiver's pass knows
is_receiver : (p : PassView) → p.number ≡ 0 → known p ≡ receiver p.senders p.senders p.behind p.taken
is_receiver p e = ap (λ b. cond b (receiver p.senders p.senders p.behind p.taken) (sender p.senders p.number p.put)) (eq-eqb p.number 0 e)

-- what a sender's pass knows
is_sender : (p : PassView) → p.number ≢ 0 → known p ≡ sender p.senders p.number p.put
is_sender p n = ap (λ b. cond b (receiver p.senders p.senders p.behind p.taken) (sender p.senders p.number p.put)) (ne_eqb p.number 0 n)

-- `together`, where it is known whether the first takes
abbrev joined : Bool → Known → Known → Known
joined b v w = record { takes = b || w.takes; made = cond b v.made w.made; given = cond b v.given w.given; behind = cond b v.behind w.behind; taken = cond b v.taken w.taken; puts = w.puts ++ v.puts }

-- passes without the receiver's: what they know together
record NoTaker (ps : List PassView) : Type 0 where
  idle : (gathered ps).takes ≡ false
  others : AllByRecursion (λ (p : PassView). p.number ≢ 0) ps
  count : sum_by taken_count ps ≡ 0

-- so it is where no pass has the receiver's number
no_taker : (ps : List PassView) → numbered 0 ps ≡ 0 → NoTaker ps
no_taker [] none = record { idle = refl; others = tt; count = refl }
no_taker (p ∷ ps) none = dite (ℕ_discrete p.number 0)
    (λ here. let h = numbered_here 0 p ps here in absurd (omega arith))
    (λ else.
    let rest = no_taker ps (sym (numbered_else 0 p ps else) ∙ none) in
    let c = sum_by-cons taken_count p ps ∙ ap (λ b. cond b (length p.taken) 0 + sum_by taken_count ps) (ne_eqb p.number 0 else) in
    let total : sum_by taken_count (p ∷ ps) ≡ 0 + sum_by taken_count ps = c in
    let r = rest.count in
    record {
      idle = ap (λ (v : Known). v.takes) (λ i. joined (rest.idle i) (gathered ps) (is_sender p else i));
      others = (else, rest.others);
      count = omega arith;
    })

-- passes with the receiver's among them: what they know together
record OneTaker (senders : ℕ) (ps : List PassView) : Type 0 where
  takes : (gathered ps).takes ≡ true
  given : (gathered ps).given ≡ senders
  count : sum_by taken_count ps ≡ length (gathered ps).taken
  same : AllByRecursion (λ (p : PassView). p.number ≡ 0 → p.taken ≡ (gathered ps).taken) ps
  behind : AllByRecursion (λ (p : PassView). p.number ≡ 0 → p.behind ≡ (gathered ps).behind) ps

-- so it is where one pass has the receiver's number
one_taker : (senders : ℕ) (ps : List PassView) → AllByRecursion (λ (p : PassView). p.senders ≡ senders) ps → numbered 0 ps ≡ 1 → OneTaker senders ps
one_taker senders [] all one = absurd (omega arith)
one_taker senders (p ∷ ps) all one = dite (ℕ_discrete p.number 0)
    (λ here.
    let h = numbered_here 0 p ps here in
    let rest = no_taker ps (omega arith) in
    let is : gathered (p ∷ ps) ≡ joined false (gathered ps) (receiver p.senders p.senders p.behind p.taken) = λ i. joined (rest.idle i) (gathered ps) (is_receiver p here i) in
    let c = sum_by-cons taken_count p ps ∙ ap (λ b. cond b (length p.taken) 0 + sum_by taken_count ps) (eq-eqb p.number 0 here) in
    let total : sum_by taken_count (p ∷ ps) ≡ length p.taken + sum_by taken_count ps = c in
    let r = rest.count in
    let mine = ap (λ (v : Known). length v.taken) is in
    record {
      takes = ap (λ (v : Known). v.takes) is;
      given = ap (λ (v : Known). v.given) is ∙ all.0;
      count = omega arith;
      same = ((λ _. sym (ap (λ (v : Known). v.taken) is)), AllByRecursion-weaker (λ (q : PassView). q.number ≢ 0) (λ (q : PassView). q.number ≡ 0 → q.taken ≡ (gathered (p ∷ ps)).taken) (λ q n e. absurd (n e)) ps rest.others);
      behind = ((λ _. sym (ap (λ (v : Known). v.behind) is)), AllByRecursion-weaker (λ (q : PassView). q.number ≢ 0) (λ (q : PassView). q.number ≡ 0 → q.behind ≡ (gathered (p ∷ ps)).behind) (λ q n e. absurd (n e)) ps rest.others);
    })
    (λ else.
    let rest = one_taker senders ps all.1 (sym (numbered_else 0 p ps else) ∙ one) in
    let is : gathered (p ∷ ps) ≡ joined true (gathered ps) (sender p.senders p.number p.put) = λ i. joined (rest.takes i) (gathered ps) (is_sender p else i) in
    let c = sum_by-cons taken_count p ps ∙ ap (λ b. cond b (length p.taken) 0 + sum_by taken_count ps) (ne_eqb p.number 0 else) in
    let total : sum_by taken_count (p ∷ ps) ≡ 0 + sum_by taken_count ps = c in
    let r = rest.count in
    let mine = ap (λ (v : Known). length v.taken) is in
    record {
      takes = ap (λ (v : Known). v.takes) is;
      given = ap (λ (v : Known). v.given) is ∙ rest.given;
      count = omega arith;
      same = ((λ e. absurd (else e)), AllByRecursion-weaker (λ (q : PassView). q.number ≡ 0 → q.taken ≡ (gathered ps).taken) (λ (q : PassView). q.number ≡ 0 → q.taken ≡ (gathered (p ∷ ps)).taken) (λ q f e. f e ∙ sym (ap (λ (v : Known). v.taken) is)) ps rest.same);
      behind = ((λ e. absurd (else e)), AllByRecursion-weaker (λ (q : PassView). q.number ≡ 0 → q.behind ≡ (gathered ps).behind) (λ (q : PassView). q.number ≡ 0 → q.behind ≡ (gathered (p ∷ ps)).behind) (λ q f e. f e ∙ sym (ap (λ (v : Known). v.behind) is)) ps rest.behind);
    })

-- what holds of each put that is known together holds of each sender's
each_sender : (Q : Put → Type 0) (ps : List PassView) → AllByRecursion Q (gathered ps).puts → AllByRecursion (λ (p : PassView). 0 < p.number → Q (put_by p.senders p.number p.put)) ps
each_sender Q [] h = tt
each_sender Q (p ∷ ps) h = (
  (λ some_number. (subst (λ (v : Known). AllByRecursion Q v.puts) (is_sender p (λ e. absurd (omega arith))) (AllByRecursion-left Q (known p).puts (gathered ps).puts h)).0),
  each_sender Q ps (AllByRecursion-right Q (known p).puts (gathered ps).puts h),
)

-- how many tickets of a sender there are
abbrev share : List Sent → PassView → ℕ
share xs p = cond (p.number == 0) 0 (length (tickets_of p.number xs))

-- of no tickets no sender has any
no_shares : (ps : List PassView) → sum_by (share []) ps ≡ 0
no_shares [] = refl
no_shares (p ∷ ps) =
    let none : share [] p ≡ 0 = elim (p.number == 0) as (λ b. ◌≡◌ {A = ℕ} (cond b 0 0) 0) [ true ↦ refl | false ↦ refl ] in
    let c = sum_by-cons (share []) p ps in
    let r = no_shares ps in omega arith

-- one more ticket is one more of its sender
one_more : (x : Sent) (xs : List Sent) (p : PassView) → 0 < x.sender → share (x ∷ xs) p ≡ cond (p.number == x.sender) 1 0 + share xs p
one_more x xs p some_number =
    let t = tickets_of p.number xs in
    dite (ℕ_discrete p.number x.sender)
    (λ here.
    let apart : p.number ≢ 0 = λ e. absurd (omega arith) in
    let l : share (x ∷ xs) p ≡ length (x.ticket ∷ t) = (λ i. cond (ne_eqb p.number 0 apart i) 0 (length (cond (eq-eqb x.sender p.number (sym here) i) (x.ticket ∷ t) t))) in
    let r : cond (p.number == x.sender) 1 0 + share xs p ≡ 1 + length t = (λ i. cond (eq-eqb p.number x.sender here i) 1 0 + cond (ne_eqb p.number 0 apart i) 0 (length t)) in
    omega arith)
    (λ else.
    let l : share (x ∷ xs) p ≡ share xs p = ap (λ b. cond (p.number == 0) 0 (length (cond b (x.ticket ∷ t) t))) (ne_eqb x.sender p.number (λ e. else (sym e))) in
    let r : cond (p.number == x.sender) 1 0 + share xs p ≡ 0 + share xs p = ap (λ b. cond b 1 0 + share xs p) (ne_eqb p.number x.sender else) in
    omega arith)

-- and one more for all passes, as often as that sender is there
more_shares : (x : Sent) (xs : List Sent) (ps : List PassView) → 0 < x.sender → sum_by (share (x ∷ xs)) ps ≡ numbered x.sender ps + sum_by (share xs) ps
more_shares x xs [] some_number = refl
more_shares x xs (p ∷ ps) some_number =
    let a = sum_by-cons (share (x ∷ xs)) p ps in
    let b = sum_by-cons (λ (q : PassView). cond (q.number == x.sender) 1 0) p ps in
    let c = sum_by-cons (share xs) p ps in
    let d = one_more x xs p some_number in
    let e = more_shares x xs ps some_number in omega arith

-- where each sender is there once, the tickets are those of the senders
all_shares : (senders : ℕ) (ps : List PassView) (xs : List Sent) → ((k : ℕ) → k ≤ senders → numbered k ps ≡ 1) → AreFrom senders xs → sum_by (share xs) ps ≡ length xs
all_shares senders ps [] once from = no_shares ps
all_shares senders ps (x ∷ xs) once from =
    let a = more_shares x xs ps from.0.0 in
    let b = once x.sender from.0.1 in
    let c = all_shares senders ps xs once from.1 in omega arith

-- where the accounts are right, as many were put as there are tickets
puts_are_shares : (xs : List Sent) (ps : List PassView) → AllByRecursion (λ (p : PassView). 0 < p.number → p.put ≡ tickets_of p.number xs) ps → sum_by put_count ps ≡ sum_by (share xs) ps
puts_are_shares xs [] h = refl
puts_are_shares xs (p ∷ ps) h =
    let a = sum_by-cons put_count p ps in
    let b = sum_by-cons (share xs) p ps in
    let same : put_count p ≡ share xs p = dite (ℕ_discrete p.number 0)
    (λ here. (λ i. cond (eq-eqb p.number 0 here i) 0 (length p.put)) ∙ sym (λ i. cond (eq-eqb p.number 0 here i) 0 (length (tickets_of p.number xs))))
    (λ else. ap (λ l. cond (p.number == 0) 0 (length l)) (h.0 (omega arith))) in
    let r = puts_are_shares xs ps h.1 in omega arith

-- with all passes together, each once, every sender's account with the receiver is right
pub settles : (inbox : InboxView) (ps : List PassView) (v : Known) (total : ℕ) → v ≡ gathered ps → All (IsPassOf inbox) ps → IsEachOnce inbox.senders ps → IsTotal total ps → total < 2 ^ 64
    → (waiting : List Sent) × Shows v waiting → Settles inbox.senders ps total
settles inbox ps v total is all once balance small moment =
    let n = inbox.senders in
    let waiting = moment.0 in
    let shown : Shows (gathered ps) waiting = subst (λ u. Shows u waiting) is moment.1 in
    let taken = shown.0 in
    let mine = one_taker n ps (AllByRecursion-weaker (IsPassOf inbox) (λ (p : PassView). p.senders ≡ n) (λ p h. h.1) ps (AllByRecursion-from_all (IsPassOf inbox) ps all)) (once.1 0 (omega arith)) in
    let end = shown.2 mine.takes in
    let from : AreFrom n (taken ++ waiting) = subst (λ k. AreFrom k (taken ++ waiting)) mine.given end.2 in
    let right : AllByRecursion (λ (p : PassView). 0 < p.number → Accounts taken waiting p) ps = each_sender (Agrees taken waiting) ps (AllByRecursion-weaker (λ (q : Put). Agrees taken waiting q × AreFrom q.among (taken ++ waiting)) (Agrees taken waiting) (λ q h. h.0) (gathered ps).puts shown.1) in
    let whole = puts_are_shares (taken ++ waiting) ps (AllByRecursion-weaker (λ (p : PassView). 0 < p.number → Accounts taken waiting p) (λ (p : PassView). 0 < p.number → p.put ≡ tickets_of p.number (taken ++ waiting)) (λ p f h. f h ∙ sym (tickets_of-append p.number taken waiting)) ps right) in
    let spread = all_shares n ps (taken ++ waiting) once.1 from in
    let lengths = length-append taken waiting in
    let took = mine.count in
    let same = ap length end.0 in
    let room = end.1 in
    let counted : length waiting ≡ total = omega arith in (
      waiting,
      counted,
      AllByRecursion-right (λ (x : Sent). (0 < x.sender) × (x.sender ≤ n)) taken waiting from,
      All-from_each (λ (r : PassView). r.number ≡ 0 → (r.behind ≤ total) × All (λ (p : PassView). 0 < p.number → Accounts r.taken waiting p) ps) ps
          (AllByRecursion-both (λ (r : PassView). r.number ≡ 0 → r.taken ≡ (gathered ps).taken) (λ (r : PassView). r.number ≡ 0 → r.behind ≡ (gathered ps).behind)
          (λ (r : PassView). r.number ≡ 0 → (r.behind ≤ total) × All (λ (p : PassView). 0 < p.number → Accounts r.taken waiting p) ps)
          (λ r f k h. (
            (let known = k h in let few = end.3 in omega arith),
            subst (λ ts. All (λ (p : PassView). 0 < p.number → Accounts ts waiting p) ps) (sym (f h ∙ end.0)) (All-from_each (λ (p : PassView). 0 < p.number → Accounts taken waiting p) ps right),
          )) ps mine.same mine.behind),
    )
