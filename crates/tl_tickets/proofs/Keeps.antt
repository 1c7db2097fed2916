-- Each step on an inbox's queue keeps its rule.
use Rattle.std.proofs.Common.{◌≡◌, ◌≢◌, ◌⊎◌, inl, inr, lit≤, ℕ, zero, suc, ◌+◌, ◌<◌, ◌≤◌, ◌==◌, ◌||◌, Bool, true, false, true≢false, cond, List, [], ◌∷◌, ◌++◌, length, set, sym, refl, ap, ◌∙◌, subst, ⊎_elim, eq-eqb, ne_eqb, append-nil, append_assoc, length-append, arith}
use Rattle.std.specs.List.{AllByRecursion}
use Rattle.tl_tickets.proofs.Each.{AllByRecursion-weaker, AllByRecursion-append, AllByRecursion-right}
use mathlib.Core.Option.{some, some-injective, some-ne-none}
use lib.ListN.{get_elem?}
use Rattle.crossbeam_queue.specs.Fifo.{Pushes, Pops, Forks, Merges, Learns, Held}
use Rattle.crossbeam_queue.proofs.Lists.{at_set}
use Rattle.tl_tickets.specs.declared.sent.Sent.{Sent}
use Rattle.tl_types.specs.declared.ticket.Ticket.{Ticket}
use Rattle.tl_tickets.specs.declared.sent.Put.{Put}
use Rattle.tl_tickets.specs.declared.sent.Known.{Known}
use Rattle.tl_tickets.specs.Inbox.{InboxView, PassView, tickets_of, AreFrom, sent, WasFull}
use Rattle.tl_tickets.specs.Delivery.{put_by, receiver, sender, nothing, known, with_counted, only_counted, with_sender, new_sender, together, Agrees, FitsPuts, FitsTaker, Delivers, Puts, Takes, Shows}
use Rattle.tl_tickets.proofs.Filters.{tickets_of-append, own_ticket, other_ticket, no_tickets}

-- what fits each view still does, once one of them is another
all_set : (F : ℕ → Known → Type 0) (views : List Known) (pass : ℕ) (w : Known) → F pass w → ((j : ℕ) (u : Known) → j ≢ pass → get_elem? views j ≡ some u → F j u)
    → (j : ℕ) (u : Known) → get_elem? (set views pass w) j ≡ some u → F j u
all_set F views pass w mine others j u e = ⊎_elim (λ (x : (j ≡ pass) × (w ≡ u)). subst (λ (y : ℕ × Known). F y.0 y.1) (λ i. (sym x.0 i, x.1 i)) mine)
    (λ (x : (j ≢ pass) × (get_elem? views j ≡ some u)). others j u x.0 x.1) (at_set views pass j w u e)

-- one more ticket waits
waits_own : (taken waiting : List Sent) (p : Put) (t : Ticket) → Agrees taken waiting p → Agrees taken (waiting ++ sent p.sender t ∷ []) (put_by p.among p.sender (p.tickets ++ t ∷ []))
waits_own taken waiting p t old =
    let x = sent p.sender t in
    ap (λ l. l ++ t ∷ []) old ∙ append_assoc (tickets_of p.sender taken) (tickets_of p.sender waiting) (t ∷ [])
    ∙ ap (λ l. tickets_of p.sender taken ++ l) (ap (λ l. tickets_of p.sender waiting ++ l) (sym (own_ticket p.sender x refl)) ∙ sym (tickets_of-append p.sender waiting (x ∷ [])))

-- one more ticket of another sender waits
waits_other : (taken waiting : List Sent) (p : Put) (x : Sent) → x.sender ≢ p.sender → Agrees taken waiting p → Agrees taken (waiting ++ x ∷ []) p
waits_other taken waiting p x apart old =
    old ∙ ap (λ l. tickets_of p.sender taken ++ l) (sym (append-nil (tickets_of p.sender waiting)) ∙ ap (λ l. tickets_of p.sender waiting ++ l) (sym (other_ticket p.sender x apart)) ∙ sym (tickets_of-append p.sender waiting (x ∷ [])))

-- a push keeps the rule
pub pushes : (n pass among s : ℕ) (ts : List Ticket) (t : Ticket) → n ≤ 4096 → Pushes Delivers n pass (sender among s ts) (sent s t) (Puts (sender among s ts) (sent s t))
pushes n pass among s ts t small items views room rule at =
    let x = sent s t in
    let w : Known = sender among s (ts ++ t ∷ []) in
    let mine = (rule.fits pass (sender among s ts) at).0.0 in
    let owner = rule.owner in
    let taken = rule.taken in
    let waiting = items ++ x ∷ [] in (
      w,
      record {
        owner = owner;
        taker = rule.taker;
        made = rule.made;
        given = rule.given;
        taken = taken;
        room = omega (arith, length-append items (x ∷ []));
        few = rule.few;
        senders = subst (AreFrom rule.given) (append_assoc taken items (x ∷ [])) (AllByRecursion-append (λ (y : Sent). (0 < y.sender) × (y.sender ≤ rule.given)) (taken ++ items) (x ∷ []) rule.senders ((mine.1, mine.2), tt));
        fits = all_set (λ j u. FitsPuts owner rule.made rule.given taken waiting j u × FitsTaker rule.taker rule.made rule.given taken waiting j u) views pass w
            (((mine.0, mine.1, mine.2, mine.3, waits_own taken items (put_by among s ts) t mine.4), tt), λ takes. absurd (true≢false (sym takes)))
            (λ j u apart e. (
              AllByRecursion-weaker (λ (p : Put). (owner p.sender ≡ j) × (0 < p.sender) × (p.sender ≤ rule.given) × (p.among ≡ rule.made) × Agrees taken items p) (λ (p : Put). (owner p.sender ≡ j) × (0 < p.sender) × (p.sender ≤ rule.given) × (p.among ≡ rule.made) × Agrees taken waiting p)
                  (λ p h. (h.0, h.1, h.2, h.3, waits_other taken items p x (λ same. apart (sym h.0 ∙ ap owner (sym same) ∙ mine.0)) h.4)) u.puts (rule.fits j u e).0,
              λ takes. let m = (rule.fits j u e).1 takes in let behind = m.4 in (m.0, m.1, m.2, m.3, omega (arith, length-append items (x ∷ []))),
            ));
      },
      refl,
    )

-- the first that waited was taken
moves : (taken items : List Sent) (x : Sent) (p : Put) → Agrees taken (x ∷ items) p → Agrees (taken ++ x ∷ []) items p
moves taken items x p old =
    let s = p.sender in
    old ∙ ap (λ l. tickets_of s taken ++ l) (tickets_of-append s (x ∷ []) items) ∙ sym (append_assoc (tickets_of s taken) (tickets_of s (x ∷ [])) (tickets_of s items)) ∙ ap (λ l. l ++ tickets_of s items) (sym (tickets_of-append s taken (x ∷ [])))

-- a pop keeps the rule
pub pops : (pass : ℕ) (v : Known) → v.takes ≡ true → v.puts ≡ [] → Pops Delivers pass v (Takes v)
pops pass v takes none x items views rule at =
    let w : Known = record v { taken = v.taken ++ x ∷ []; behind = length items } in
    let mine = (rule.fits pass v at).1 takes in
    let owner = rule.owner in
    let taken = rule.taken ++ x ∷ [] in
    let theirs : AreFrom rule.given (taken ++ items) = subst (AreFrom rule.given) (sym (append_assoc rule.taken (x ∷ []) items)) rule.senders in
    let here = (AllByRecursion-right (λ (y : Sent). (0 < y.sender) × (y.sender ≤ rule.given)) rule.taken (x ∷ items) rule.senders).0 in
    let Old : ℕ → Put → Type 0 = λ j p. (owner p.sender ≡ j) × (0 < p.sender) × (p.sender ≤ rule.given) × (p.among ≡ rule.made) × Agrees rule.taken (x ∷ items) p in
    let New : ℕ → Put → Type 0 = λ j p. (owner p.sender ≡ j) × (0 < p.sender) × (p.sender ≤ rule.given) × (p.among ≡ rule.made) × Agrees taken items p in (
      w,
      record {
        owner = owner;
        taker = rule.taker;
        made = rule.made;
        given = rule.given;
        taken = taken;
        room = let r = rule.room in omega arith;
        few = rule.few;
        senders = theirs;
        fits = all_set (λ j u. FitsPuts owner rule.made rule.given taken items j u × FitsTaker rule.taker rule.made rule.given taken items j u) views pass w
            (subst (AllByRecursion (New pass)) (sym none) tt, λ _. (mine.0, mine.1, mine.2, ap (λ l. l ++ x ∷ []) mine.3, omega arith))
            (λ j u apart e. (
              AllByRecursion-weaker (Old j) (New j) (λ p h. (h.0, h.1, h.2, h.3, moves rule.taken items x p h.4)) u.puts (rule.fits j u e).0,
              λ h. absurd (apart (sym ((rule.fits j u e).1 h).0 ∙ mine.0)),
            ));
      },
      (length items, here.0, subst (λ n. x.sender ≤ n) (sym mine.2) here.1, omega (arith, mine.4), refl),
    )

-- what a pass learns of one moment
pub learns : (pass : ℕ) (v : Known) → Learns Delivers pass v (Shows v)
learns pass v items views rule at =
    let mine = rule.fits pass v at in
    let whole = rule.taken ++ items in
    let from : AreFrom rule.made whole = AllByRecursion-weaker (λ (x : Sent). (0 < x.sender) × (x.sender ≤ rule.given)) (λ (x : Sent). (0 < x.sender) × (x.sender ≤ rule.made)) (λ x h. let few = rule.few in (h.0, omega (arith, h.1))) whole rule.senders in (
      rule.taken,
      AllByRecursion-weaker (λ (p : Put). (rule.owner p.sender ≡ pass) × (0 < p.sender) × (p.sender ≤ rule.given) × (p.among ≡ rule.made) × Agrees rule.taken items p) (λ (p : Put). Agrees rule.taken items p × AreFrom p.among whole)
          (λ p h. (h.4, subst (λ n. AreFrom n whole) (sym h.3) from)) v.puts mine.0,
      λ takes. ((mine.1 takes).3, rule.room, subst (λ n. AreFrom n whole) (sym (mine.1 takes).2) rule.senders, (mine.1 takes).4),
    )

-- what a sender's pass knows
pub sender_known : (p : PassView) (v : Known) → known p ≡ v → 0 < p.number → v ≡ sender p.senders p.number p.put
sender_known p v is some_number = sym is ∙ ap (λ b. cond b (receiver p.senders p.senders p.behind p.taken) (sender p.senders p.number p.put)) (ne_eqb p.number 0 (λ e. absurd (omega arith)))

-- what the receiver's pass knows
pub receiver_known : (p : PassView) (v : Known) → known p ≡ v → p.number ≡ 0 → v ≡ receiver p.senders p.senders p.behind p.taken
receiver_known p v is zero_number = sym is ∙ ap (λ b. cond b (receiver p.senders p.senders p.behind p.taken) (sender p.senders p.number p.put)) (eq-eqb p.number 0 zero_number)

-- a push with a sender's pass keeps the rule
pub sender_pushes : (n pass : ℕ) (p : PassView) (v : Known) (t : Ticket) → known p ≡ v → 0 < p.number → n ≤ 4096 → Pushes Delivers n pass v (sent p.number t) (Puts v (sent p.number t))
sender_pushes n pass p v t is some_number small = subst (λ u. Pushes Delivers n pass u (sent p.number t) (Puts u (sent p.number t))) (sym (sender_known p v is some_number)) (pushes n pass p.senders p.number p.put t small)

-- a pop with the receiver's pass keeps the rule
pub receiver_pops : (pass : ℕ) (p : PassView) (v : Known) → known p ≡ v → p.number ≡ 0 → Pops Delivers pass v (Takes v)
receiver_pops pass p v is zero_number = subst (λ u. Pops Delivers pass u (Takes u)) (sym (receiver_known p v is zero_number)) (pops pass (receiver p.senders p.senders p.behind p.taken) refl refl)

-- where the inbox was full, its senders' tickets waited, and the sender's account was right
pub was_full : (n : ℕ) (inbox : InboxView) (p : PassView) (v : Known) → known p ≡ v → 0 < p.number → p.senders ≡ inbox.senders → inbox.capacity ≡ n → Held n (Shows v) → WasFull inbox p
was_full n inbox p v is some_number senders capacity held =
    let shown = held.2 in
    let Right : Put → Type 0 = λ q. Agrees shown.0 held.0 q × AreFrom q.among (shown.0 ++ held.0) in
    let account = subst (λ (u : Known). AllByRecursion Right u.puts) (sender_known p v is some_number) shown.1 in
    (shown.0, held.0, held.1 ∙ sym capacity, subst (λ k. AreFrom k (shown.0 ++ held.0)) senders account.0.1, account.0.0)

-- an element of a longer list is an old one or the last
at_end : (l : List Known) (a b : Known) (j : ℕ) → get_elem? (l ++ a ∷ []) j ≡ some b → (get_elem? l j ≡ some b) ⊎ ((j ≡ length l) × (a ≡ b))
at_end [] a b zero e = inr (refl, some-injective a b e)
at_end [] a b (suc j) e = absurd (some-ne-none b (sym e))
at_end (x ∷ xs) a b zero e = inl e
at_end (x ∷ xs) a b (suc j) e = ⊎_elim inl (λ t. inr (ap suc t.0, t.1)) (at_end xs a b j e)

-- a list of one has that one
only : (a b : Known) (j : ℕ) → get_elem? (a ∷ []) j ≡ some b → (j ≡ 0) × (a ≡ b)
only a b zero e = (refl, some-injective a b e)
only a b (suc j) e = absurd (some-ne-none b (sym e))

-- a new queue keeps the rule
pub begins : Delivers [] (receiver 0 0 0 [] ∷ [])
begins = record {
  owner = λ _. 0;
  taker = 0;
  made = 0;
  given = 0;
  taken = [];
  room = lit≤ tt;
  few = lit≤ tt;
  senders = tt;
  fits = λ pass v e.
      let is = only (receiver 0 0 0 []) v pass e in
      subst (λ (y : ℕ × Known). FitsPuts (λ _. 0) 0 0 [] [] y.0 y.1 × FitsTaker 0 0 0 [] [] y.0 y.1) (λ i. (sym is.0 i, is.1 i)) (tt, λ _. (refl, refl, refl, refl, lit≤ tt));
}

-- another value at one number
pub at_number : (f : ℕ → ℕ) (n a s : ℕ) → s ≡ n → cond (s == n) a (f s) ≡ a
at_number f n a s e = ap (λ b. cond b a (f s)) (eq-eqb s n e)

-- the same value elsewhere
pub else_number : (f : ℕ → ℕ) (n a s : ℕ) → s ≢ n → cond (s == n) a (f s) ≡ f s
else_number f n a s e = ap (λ b. cond b a (f s)) (ne_eqb s n e)

-- counting a sender keeps the rule, while none has its pass
pub counts : (pass : ℕ) (v : Known) → v.takes ≡ true → v.puts ≡ [] → v.given ≡ 0 → Forks Delivers pass v (with_counted v) (only_counted v)
counts pass v takes none early items views rule at =
    let mine = (rule.fits pass v at).1 takes in
    let left : Known = with_counted v in
    let vs : List Known = set views pass left in
    let made = rule.made + 1 in
    let owner = rule.owner in
    let given = rule.given in
    let taken = rule.taken in
    let none_given : given ≡ 0 = sym mine.2 ∙ early in
    let New : ℕ → Put → Type 0 = λ j p. (owner p.sender ≡ j) × (0 < p.sender) × (p.sender ≤ given) × (p.among ≡ made) × Agrees taken items p in
    let Old : ℕ → Put → Type 0 = λ j p. (owner p.sender ≡ j) × (0 < p.sender) × (p.sender ≤ given) × (p.among ≡ rule.made) × Agrees taken items p in
    let Fits : ℕ → Known → Type 0 = λ j u. FitsPuts owner made given taken items j u × FitsTaker rule.taker made given taken items j u in
    let kept : (j : ℕ) (p : Put) → Old j p → New j p = λ j p h. let some_number : 0 < p.sender = h.1 in let below : p.sender ≤ given = h.2 in absurd (omega arith) in
    let old : (j : ℕ) (u : Known) → get_elem? vs j ≡ some u → Fits j u = all_set Fits views pass left
    (subst (AllByRecursion (New pass)) (sym none) tt, λ _. (mine.0, ap (λ n. n + 1) mine.1, mine.2, mine.3, mine.4))
    (λ j u apart e. (AllByRecursion-weaker (Old j) (New j) (kept j) u.puts (rule.fits j u e).0, λ h. absurd (apart (sym ((rule.fits j u e).1 h).0 ∙ mine.0)))) in
    let fresh : Fits (length vs) nothing = (tt, λ h. absurd (true≢false (sym h))) in
    record {
      owner = owner;
      taker = rule.taker;
      made = made;
      given = given;
      taken = taken;
      room = rule.room;
      few = let few = rule.few in omega arith;
      senders = rule.senders;
      fits = λ j u e. ⊎_elim (old j u) (λ (is : (j ≡ length vs) × (nothing ≡ u)). subst (λ (y : ℕ × Known). Fits y.0 y.1) (λ i. (sym is.0 i, is.1 i)) fresh) (at_end vs nothing u j e);
    }

-- a new sender's pass keeps the rule
pub forks : (pass : ℕ) (v : Known) → v.takes ≡ true → v.puts ≡ [] → v.given < v.made → Forks Delivers pass v (with_sender v) (new_sender v)
forks pass v takes none more items views rule at =
    let mine = (rule.fits pass v at).1 takes in
    let left : Known = with_sender v in
    let right : Known = new_sender v in
    let vs : List Known = set views pass left in
    let given = rule.given + 1 in
    let number = v.given + 1 in
    let same : number ≡ given = ap (λ n. n + 1) mine.2 in
    let owner : ℕ → ℕ = λ s. cond (s == number) (length vs) (rule.owner s) in
    let taken = rule.taken in
    let New : ℕ → Put → Type 0 = λ j p. (owner p.sender ≡ j) × (0 < p.sender) × (p.sender ≤ given) × (p.among ≡ rule.made) × Agrees taken items p in
    let Old : ℕ → Put → Type 0 = λ j p. (rule.owner p.sender ≡ j) × (0 < p.sender) × (p.sender ≤ rule.given) × (p.among ≡ rule.made) × Agrees taken items p in
    let Fits : ℕ → Known → Type 0 = λ j u. FitsPuts owner rule.made given taken items j u × FitsTaker rule.taker rule.made given taken items j u in
    let kept : (j : ℕ) (p : Put) → Old j p → New j p = λ j p h. let below : p.sender ≤ rule.given = h.2 in (else_number rule.owner number (length vs) p.sender (λ e. absurd (omega arith)) ∙ h.0, h.1, omega arith, h.3, h.4) in
    let old : (j : ℕ) (u : Known) → get_elem? vs j ≡ some u → Fits j u = all_set Fits views pass left
    (subst (AllByRecursion (New pass)) (sym none) tt, λ _. (mine.0, mine.1, same, mine.3, mine.4))
    (λ j u apart e. (AllByRecursion-weaker (Old j) (New j) (kept j) u.puts (rule.fits j u e).0, λ h. absurd (apart (sym ((rule.fits j u e).1 h).0 ∙ mine.0)))) in
    let none_yet : tickets_of number taken ++ tickets_of number items ≡ [] = sym (tickets_of-append number taken items) ∙ no_tickets rule.given number (taken ++ items) (omega arith) rule.senders in
    let fresh : Fits (length vs) right = (((at_number rule.owner number (length vs) number refl, omega arith, omega arith, mine.1, sym none_yet), tt), λ h. absurd (true≢false (sym h))) in
    let all : v.made ≡ rule.made = mine.1 in
    record {
      owner = owner;
      taker = rule.taker;
      made = rule.made;
      given = given;
      taken = taken;
      room = rule.room;
      few = omega arith;
      senders = AllByRecursion-weaker (λ (x : Sent). (0 < x.sender) × (x.sender ≤ rule.given)) (λ (x : Sent). (0 < x.sender) × (x.sender ≤ given)) (λ x h. (h.0, omega (arith, h.1))) (taken ++ items) rule.senders;
      fits = λ j u e. ⊎_elim (old j u) (λ (is : (j ≡ length vs) × (right ≡ u)). subst (λ (y : ℕ × Known). Fits y.0 y.1) (λ i. (sym is.0 i, is.1 i)) fresh) (at_end vs right u j e);
    }

-- of two passes one takes at most, and it knows what was taken
takes_together : (b c : Bool) (m n made k l given : ℕ) (ts us taken : List Sent) (p q most : ℕ) (A : Type 0)
    → (b ≡ true → A × (m ≡ made) × (k ≡ given) × (ts ≡ taken) × (p ≤ most)) → (c ≡ true → A × (n ≡ made) × (l ≡ given) × (us ≡ taken) × (q ≤ most))
    → (b || c) ≡ true → A × (cond b m n ≡ made) × (cond b k l ≡ given) × (cond b ts us ≡ taken) × (cond b p q ≤ most)
takes_together true c m n made k l given ts us taken p q most A f g h = f refl
takes_together false c m n made k l given ts us taken p q most A f g h = g h

-- two passes joined keep the rule
pub merges : (pass : ℕ) (v : Known) (other : ℕ) (w : Known) → Merges Delivers pass v other w (together v w) nothing
merges pass v other w items views rule at apart at' =
    let both : Known = together v w in
    let vs : List Known = set views pass both in
    let was : get_elem? views other ≡ some w = ⊎_elim (λ (x : (other ≡ pass) × (both ≡ w)). absurd (apart x.0)) (λ (x : (other ≢ pass) × (get_elem? views other ≡ some w)). x.1) (at_set views pass other both w at') in
    let mine = rule.fits pass v at in
    let theirs = rule.fits other w was in
    let taken = rule.taken in
    let to : ℕ → ℕ = λ j. cond (j == other) pass j in
    let owner : ℕ → ℕ = λ s. to (rule.owner s) in
    let taker = to rule.taker in
    let from_other : (j : ℕ) → j ≡ other → to j ≡ pass = λ j e. at_number (λ k. k) other pass j e in
    let stays : (j k : ℕ) → j ≡ k → k ≢ other → to j ≡ k = λ j k e n. else_number (λ i. i) other pass j (λ h. n (sym e ∙ h)) ∙ e in
    let Old : ℕ → Put → Type 0 = λ j p. (rule.owner p.sender ≡ j) × (0 < p.sender) × (p.sender ≤ rule.given) × (p.among ≡ rule.made) × Agrees taken items p in
    let New : ℕ → Put → Type 0 = λ j p. (owner p.sender ≡ j) × (0 < p.sender) × (p.sender ≤ rule.given) × (p.among ≡ rule.made) × Agrees taken items p in
    let Fits : ℕ → Known → Type 0 = λ j u. FitsPuts owner rule.made rule.given taken items j u × FitsTaker taker rule.made rule.given taken items j u in
    let still : pass ≢ other = λ e. apart (sym e) in
    let joined : Fits pass both = (
      AllByRecursion-append (New pass) w.puts v.puts (AllByRecursion-weaker (Old other) (New pass) (λ p h. (from_other (rule.owner p.sender) h.0, h.1, h.2, h.3, h.4)) w.puts theirs.0) (AllByRecursion-weaker (Old pass) (New pass) (λ p h. (stays (rule.owner p.sender) pass h.0 still, h.1, h.2, h.3, h.4)) v.puts mine.0),
      takes_together v.takes w.takes v.made w.made rule.made v.given w.given rule.given v.taken w.taken taken v.behind w.behind (length items) (taker ≡ pass) (λ h. let m = mine.1 h in (stays rule.taker pass m.0 still, m.1, m.2, m.3, m.4)) (λ h. let m = theirs.1 h in (from_other rule.taker m.0, m.1, m.2, m.3, m.4)),
    ) in
    let now : (j : ℕ) (u : Known) → get_elem? vs j ≡ some u → j ≢ other → Fits j u = all_set (λ j u. j ≢ other → Fits j u) views pass both (λ _. joined)
    (λ j u _ e n. (
      AllByRecursion-weaker (Old j) (New j) (λ p h. (stays (rule.owner p.sender) j h.0 n, h.1, h.2, h.3, h.4)) u.puts (rule.fits j u e).0,
      λ h. let m = (rule.fits j u e).1 h in (stays rule.taker j m.0 n, m.1, m.2, m.3, m.4),
    )) in
    record {
      owner = owner;
      taker = taker;
      made = rule.made;
      given = rule.given;
      taken = taken;
      room = rule.room;
      few = rule.few;
      senders = rule.senders;
      fits = all_set Fits vs other nothing (tt, λ h. absurd (true≢false (sym h))) (λ j u n e. now j u e n);
    }
