-- One more ticket that a round went over.
use Rattle.std.proofs.Common.{◌≡◌, List, [], ◌∷◌, ◌++◌, true, false, refl, sym, ap, subst, inl, inr, append-nil, append_assoc}
use Rattle.tl_types.specs.declared.ticket.Ticket.{Ticket}
use Rattle.tl_client_mail.specs.Rounds.{AreBarred, is_barred}
use Rattle.tl_client_ports.specs.Ports.{asked}
use Rattle.tl_client_ports.specs.declared.port.Asked.{Asked}
use Rattle.tl_client.specs.Rounds.{Goes}

-- a round that goes over one more ticket, which is barred
pub goes-barred : (kept gone : List Ticket) (all : List Asked) (end : List Ticket) (t : Ticket) → Goes kept gone all end → is_barred end t ≡ true
    → Goes kept (gone ++ t ∷ []) all (end ++ t ∷ [])
goes-barred kept [] all end t h is = inl (subst (λ (k : List Ticket). is_barred k t ≡ true) h.1 is, (h.0, ap (λ (k : List Ticket). k ++ t ∷ []) h.1))
goes-barred kept (p ∷ rest) all end t (inl h) is = inl (h.0, goes-barred (kept ++ p ∷ []) rest all end t h.1 is)
goes-barred kept (p ∷ rest) all end t (inr h) is = inr (
  h.0,
  (
    h.1.0,
    elim h.1.1 [
      | inl k ↦ inl (k.0, goes-barred kept rest h.1.0 end t k.1 is)
      | inr k ↦ inr (k.0, goes-barred (kept ++ p ∷ []) rest h.1.0 end t k.1 is)
    ],
  ),
)

-- a round that goes over one more ticket, which is served
pub goes-served : (kept gone : List Ticket) (all : List Asked) (end : List Ticket) (t : Ticket) → Goes kept gone all end → is_barred end t ≡ false
    → Goes kept (gone ++ t ∷ []) (all ++ asked t true ∷ []) end
goes-served kept [] all end t h is =
    inr (subst (λ (k : List Ticket). is_barred k t ≡ false) h.1 is, ([], inl (ap (λ (a : List Asked). a ++ asked t true ∷ []) h.0, (refl, h.1))))
goes-served kept (p ∷ rest) all end t (inl h) is = inl (h.0, goes-served (kept ++ p ∷ []) rest all end t h.1 is)
goes-served kept (p ∷ rest) all end t (inr h) is = inr (
  h.0,
  (
    h.1.0 ++ asked t true ∷ [],
    elim h.1.1 [
      | inl k ↦ inl (ap (λ (a : List Asked). a ++ asked t true ∷ []) k.0, goes-served kept rest h.1.0 end t k.1 is)
      | inr k ↦ inr (ap (λ (a : List Asked). a ++ asked t true ∷ []) k.0, goes-served (kept ++ p ∷ []) rest h.1.0 end t k.1 is)
    ],
  ),
)

-- a round that goes over one more ticket, which is refused
pub goes-refused : (kept gone : List Ticket) (all : List Asked) (end : List Ticket) (t : Ticket) → Goes kept gone all end → is_barred end t ≡ false
    → Goes kept (gone ++ t ∷ []) (all ++ asked t false ∷ []) (end ++ t ∷ [])
goes-refused kept [] all end t h is =
    inr (
      subst (λ (k : List Ticket). is_barred k t ≡ false) h.1 is,
      ([], inr (ap (λ (a : List Asked). a ++ asked t false ∷ []) h.0, (refl, ap (λ (k : List Ticket). k ++ t ∷ []) h.1))),
    )
goes-refused kept (p ∷ rest) all end t (inl h) is = inl (h.0, goes-refused (kept ++ p ∷ []) rest all end t h.1 is)
goes-refused kept (p ∷ rest) all end t (inr h) is = inr (
  h.0,
  (
    h.1.0 ++ asked t false ∷ [],
    elim h.1.1 [
      | inl k ↦ inl (ap (λ (a : List Asked). a ++ asked t false ∷ []) k.0, goes-refused kept rest h.1.0 end t k.1 is)
      | inr k ↦ inr (ap (λ (a : List Asked). a ++ asked t false ∷ []) k.0, goes-refused (kept ++ p ∷ []) rest h.1.0 end t k.1 is)
    ],
  ),
)

-- a round that goes over more tickets, each barred in its turn
pub goes-passed : (kept gone : List Ticket) (all : List Asked) (end passed : List Ticket) → Goes kept gone all end → AreBarred end passed
    → Goes kept (gone ++ passed) all (end ++ passed)
goes-passed kept gone all end [] h each =
    subst (λ (g : List Ticket). Goes kept g all (end ++ [])) (sym (append-nil gone))
    (subst (λ (k : List Ticket). Goes kept gone all k) (sym (append-nil end)) h)
goes-passed kept gone all end (p ∷ rest) h each =
    subst (λ (g : List Ticket). Goes kept g all (end ++ p ∷ rest)) (append_assoc gone (p ∷ []) rest)
    (subst (λ (k : List Ticket). Goes kept ((gone ++ p ∷ []) ++ rest) all k) (append_assoc end (p ∷ []) rest)
    (goes-passed kept (gone ++ p ∷ []) all (end ++ p ∷ []) rest (goes-barred kept gone all end p h each.0) each.1))
