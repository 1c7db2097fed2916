-- How a round goes on: what it has gone over, what it asked, and what it kept.
use Rattle.std.proofs.Common.{◌≡◌, ◌<◌, List, [], ◌∷◌, ◌++◌, Bool, true, false, length, take, drop, refl, sym, ◌∙◌, ap, subst, arith, append-nil, append_assoc}
use Rattle.std.proofs.lemmas.Grind.{common_steps}
use Rattle.std.proofs.lemmas.List.{append_cancel_left}
use Rattle.tl_types.specs.declared.ticket.Ticket.{Ticket}
use Rattle.tl_client_ports.specs.Ports.{asked}
use Rattle.tl_client.specs.Rounds.{Goes}
use Rattle.tl_client_mail.specs.Rounds.{AreBarred, Round, all_of, is_barred, once_asked}
use Rattle.tl_client_ports.specs.declared.port.Asked.{Asked}
use Rattle.tl_client.proofs.RoundLaws.{goes-served, goes-refused, goes-passed}

-- of all tickets some were gone over, which was asked behind what was asked before, and those kept and the rest wait
abbrev pub Went : List Ticket → List Asked → Round → List Asked → Type 0
Went all before w after =
    (gone : List Ticket) × (more : List Asked) × (all ≡ gone ++ w.rest) × (after ≡ before ++ more) × Goes [] gone more w.kept

-- tickets were passed over, each barred in its turn
abbrev pub Passed : Round → Round → Type 0
Passed old new = (passed : List Ticket) × (new.kept ≡ old.kept ++ passed) × AreBarred old.kept passed

-- the rest, once tickets were passed over
rest-passed : (old new : Round) → all_of new ≡ all_of old → (p : Passed old new) → p.0 ++ new.rest ≡ old.rest
rest-passed old new order p =
    append_cancel_left old.kept (p.0 ++ new.rest) old.rest
    (sym (append_assoc old.kept p.0 new.rest) ∙ ap (λ (k : List Ticket). k ++ new.rest) (sym p.1) ∙ order)

-- a round that passes over tickets
pub went-passed : (all : List Ticket) (before after : List Asked) (old new : Round) → Went all before old after → all_of new ≡ all_of old → Passed old new
    → Went all before new after
went-passed all before after old new w order p = (
  w.0 ++ p.0,
  w.1,
  w.2 ∙ ap (λ (r : List Ticket). w.0 ++ r) (sym (rest-passed old new order p)) ∙ sym (append_assoc w.0 p.0 new.rest),
  w.3,
  subst (λ (k : List Ticket). Goes [] (w.0 ++ p.0) w.1 k) (sym p.1) (goes-passed [] w.0 w.1 old.kept p.0 w.4 p.2),
)

-- the tickets gone over, with the next
gone-next : (all gone rest later : List Ticket) (t : Ticket) → all ≡ gone ++ rest → rest ≡ t ∷ later → all ≡ (gone ++ t ∷ []) ++ drop 1 rest
gone-next all gone rest later t is next =
    is ∙ ap (λ (r : List Ticket). gone ++ r) next ∙ sym (append_assoc gone (t ∷ []) later)
    ∙ ap (λ (r : List Ticket). (gone ++ t ∷ []) ++ drop 1 r) (sym next)

-- what was asked, with one more
asked-next : (before more after new : List Asked) (a : Asked) → after ≡ before ++ more → new ≡ after ++ a ∷ [] → new ≡ before ++ (more ++ a ∷ [])
asked-next before more after new a is next = next ∙ ap (λ (x : List Asked). x ++ a ∷ []) is ∙ append_assoc before more (a ∷ [])

-- a round whose next ticket is served
pub went-served : (all : List Ticket) (before after new : List Asked) (w : Round) (t : Ticket) → Went all before w after
    → (is_barred w.kept t ≡ false) × ((later : List Ticket) × (w.rest ≡ t ∷ later)) → new ≡ after ++ asked t true ∷ []
    → Went all before (record w { rest = drop 1 w.rest }) new
went-served all before after new w t went next more = (
  went.0 ++ t ∷ [],
  went.1 ++ asked t true ∷ [],
  gone-next all went.0 w.rest next.1.0 t went.2 next.1.1,
  asked-next before went.1 after new (asked t true) went.3 more,
  goes-served [] went.0 went.1 w.kept t went.4 next.0,
)

-- a round whose next ticket is refused
pub went-refused : (all : List Ticket) (before after new : List Asked) (w : Round) (t : Ticket) → Went all before w after
    → (is_barred w.kept t ≡ false) × ((later : List Ticket) × (w.rest ≡ t ∷ later)) → new ≡ after ++ asked t false ∷ []
    → Went all before (record w { kept = w.kept ++ take 1 w.rest; rest = drop 1 w.rest }) new
went-refused all before after new w t went next more = (
  went.0 ++ t ∷ [],
  went.1 ++ asked t false ∷ [],
  gone-next all went.0 w.rest next.1.0 t went.2 next.1.1,
  asked-next before went.1 after new (asked t false) went.3 more,
  subst (λ (r : List Ticket). Goes [] (went.0 ++ t ∷ []) (went.1 ++ asked t false ∷ []) (w.kept ++ take 1 r)) (sym next.1.1)
      (goes-refused [] went.0 went.1 w.kept t went.4 next.0),
)

-- a round whose next ticket is served or refused
pub went-asked : (all : List Ticket) (before after new : List Asked) (w : Round) (t : Ticket) (served : Bool) → Went all before w after
    → (is_barred w.kept t ≡ false) × ((later : List Ticket) × (w.rest ≡ t ∷ later)) → new ≡ after ++ asked t served ∷ []
    → Went all before (once_asked served w) new
went-asked all before after new w t true went next more = went-served all before after new w t went next more
went-asked all before after new w t false went next more = went-refused all before after new w t went next more

-- a round that has come to the end
pub went-all : (all : List Ticket) (before after : List Asked) (w : Round) → Went all before w after → w.rest ≡ []
    → (more : List Asked) × (after ≡ before ++ more) × Goes [] all more (all_of w)
went-all all before after w went none = (
  went.1,
  went.3,
  subst (λ (g : List Ticket). Goes [] g went.1 (all_of w)) (sym (went.2 ∙ ap (λ (r : List Ticket). went.0 ++ r) none ∙ append-nil went.0))
      (subst (λ (k : List Ticket). Goes [] went.0 went.1 k) (sym (ap (λ (r : List Ticket). w.kept ++ r) none ∙ append-nil w.kept)) went.4),
)

-- the rest of a round once its next ticket was asked
pub rest-asked : (served : Bool) (w : Round) → (once_asked served w).rest ≡ drop 1 w.rest
rest-asked true w = refl
rest-asked false w = refl

-- fewer tickets are left once the next was asked
pub fewer : (old new : Round) (t : Ticket) → all_of new ≡ all_of old → Passed old new → ((later : List Ticket) × (new.rest ≡ t ∷ later))
    → length (drop 1 new.rest) < length old.rest
fewer old new t order p next =
    let is : p.0 ++ new.rest ≡ old.rest = rest-passed old new order p in
    let one : new.rest ≡ t ∷ next.0 = next.1 in
    grind (arith, common_steps, is, one)

-- tickets that were laid behind all that wait, in three parts
pub laid : (w0 w1 w2 w3 : Round) (one two three : List Ticket) → w1.kept ≡ w0.kept → w1.rest ≡ w0.rest ++ one → w2.kept ≡ w1.kept → w2.rest ≡ w1.rest ++ two
    → w3.kept ≡ w2.kept → w3.rest ≡ w2.rest ++ three → all_of w3 ≡ all_of w0 ++ (one ++ (two ++ three))
laid w0 w1 w2 w3 one two three k1 r1 k2 r2 k3 r3 =
    ap (λ (k : List Ticket). k ++ w3.rest) (k3 ∙ k2 ∙ k1)
    ∙ ap (λ (r : List Ticket). w0.kept ++ r) (r3 ∙ ap (λ (r : List Ticket). r ++ three) (r2 ∙ ap (λ (r : List Ticket). r ++ two) r1))
    ∙ ap (λ (r : List Ticket). w0.kept ++ r) (append_assoc (w0.rest ++ one) two three ∙ append_assoc w0.rest one (two ++ three))
    ∙ sym (append_assoc w0.kept w0.rest (one ++ (two ++ three)))
